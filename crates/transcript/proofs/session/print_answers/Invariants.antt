use Rattle.std.proofs.Common.{◌≡◌, length, string_bytes}
use Rattle.texts.specs.Views.{calls_left, next_number}
use Rattle.book.specs.Held.{held}
use Rattle.transcript.proofs.Adding.{SoFar}
use Rattle.transcript.proofs.session.print_answers.Given as goal

abbrev pub invariant-loop-call : goal.invariant-loop-call
invariant-loop-call g l =
    let quotes = g.S.QuoteSource.quotes in
    (l.line ≡ next_number l.script) ×
    SoFar (next_number l.initial.script) (quotes l.initial.source) (held l.initial.book) (calls_left l.initial.script) (string_bytes l.initial.text)
    (next_number l.script) (quotes l.source) (held l.book) (calls_left l.script) (string_bytes l.text)

abbrev pub decreases-loop-call : goal.decreases-loop-call
decreases-loop-call g l = length (calls_left l.script)
