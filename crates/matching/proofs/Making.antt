-- Events that were made on a line and reported, one list after another.
use Rattle.std.proofs.Common.{◌≡◌, ℕ, ◌≤◌, List, [], ◌++◌, length, refl, sym, ap, ◌∙◌, arith, length-append, length-take}
use Rattle.market.specs.declared.report.Report.{Report}
use Rattle.rules.specs.Lines as lines
use Rattle.rules.specs.Lines.{Event, replay, all_reports}
use Rattle.rules.proofs.Events.{replay-++, reports-++}
use Rattle.matching.specs.declared.line.Line.{Line}
use Rattle.matching.specs.declared.reports.Reports.{Reports}
use Rattle.matching.specs.Held.{held, Becomes}
use Rattle.matching.specs.Reported.{Reported}
use Rattle.matching.specs.Changes.{Makes}
use Rattle.matching.specs.Tables.{written, Made}
use Rattle.matching.proofs.Edits.{written_none, written_twice}

pub made_none : (line : lines.Line) (table : List Report) (next : ℕ) → Made [] line table next line table next
made_none line table next = record { line_is = λ i. line; table_is = sym (written_none table next); next_is = omega arith }

pub made_then : {es fs : List Event} {line line₁ line₂ : lines.Line} {table table₁ table₂ : List Report} {next next₁ next₂ : ℕ}
    → Made es line table next line₁ table₁ next₁ → Made fs line₁ table₁ next₁ line₂ table₂ next₂ → next₁ ≤ length table → Made (es ++ fs) line table next line₂ table₂ next₂
made_then {es} {fs} {line} {table} {next} {next₁} m n room = record {
  line_is = n.line_is ∙ ap (replay fs) m.line_is ∙ sym (replay-++ es fs line);
  table_is =
      n.table_is ∙ (λ i. written (m.table_is i) (m.next_is i) (all_reports fs))
      ∙ written_twice table next (all_reports es) (all_reports fs) (omega (arith, m.next_is))
      ∙ ap (written table next) (sym (reports-++ es fs));
  next_is = omega (arith, m.next_is, n.next_is, ap length (reports-++ es fs), length-append (all_reports es) (all_reports fs));
}

-- the line's length is that of the list of its orders
pub held_length : (line : Line) → length (held line) ≡ line.len
held_length line = omega (arith, length-take line.len line.rows.now, line.within)

pub reported_none : (reports : Reports) → Reported [] reports reports
reported_none reports = record { table_is = sym (written_none reports.table.now reports.next); next_is = omega arith; same_size = refl; same_table = refl }

pub makes_none : (line : Line) (reports : Reports) → Makes [] line reports line reports
makes_none line reports = record { made = made_none (held line) reports.table.now reports.next; line_size = refl; line_table = refl; report_size = refl; report_table = refl }

pub makes_then : {es fs : List Event} {line line₁ line₂ : Line} {reports reports₁ reports₂ : Reports} → Makes es line reports line₁ reports₁ → Makes fs line₁ reports₁ line₂ reports₂ → Makes (es ++ fs) line reports line₂ reports₂
makes_then {reports₁} m n = record {
  made = made_then m.made n.made (omega (arith, m.report_size, reports₁.within));
  line_size = n.line_size ∙ m.line_size;
  line_table = n.line_table ∙ m.line_table;
  report_size = n.report_size ∙ m.report_size;
  report_table = n.report_table ∙ m.report_table;
}

-- what becomes of the line, and what is reported, are the events
pub makes : (es : List Event) {line line' : Line} {reports reports' : Reports} → Becomes line (replay es (held line)) line' → Reported (all_reports es) reports reports' → Makes es line reports line' reports'
makes es b r = record {
  made = record { line_is = b.holds; table_is = r.table_is; next_is = r.next_is };
  line_size = b.same_size;
  line_table = b.same_table;
  report_size = r.same_size;
  report_table = r.same_table;
}
