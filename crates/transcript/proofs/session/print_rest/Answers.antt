use Rattle.std.proofs.Common.{string_bytes, subst}
use Rattle.std.proofs.lemmas.Result.{IfOk-weaker}
use Rattle.transcript.specs.Limits.{calls_in}
use Rattle.sources.specs.Tapes.{quotes_in}
use Rattle.transcript.specs.Format.{Completes}
use Rattle.transcript.proofs.Adding.{refusal_completes}
use Rattle.transcript.proofs.session.print_rest.Goals as goal

pub returns-in-Err : goal.returns-in-Err
returns-in-Err c =
    let quotes = quotes_in c.args.quotes.now in
    let calls = calls_in c.args.script.now in
    let before = string_bytes c.args.text.now in
    let after = string_bytes c.print_refusal.new.text in
    IfOk-weaker c.print_refusal.result _ _
    (λ _ e. subst (λ checked. Completes checked quotes calls before after) c.in-Err.ensures.texts (refusal_completes c.in-Err.refused quotes calls before after e))
    c.print_refusal.ensures
