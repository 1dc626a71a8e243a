-- The quotes that a source has before it: the one in force, and those that come after it.
use Rattle.std.specs.Prelude.{List, ◌∷◌}
use Rattle.market.specs.declared.quote.Quote.{Quote}
use Rattle.texts.specs.declared.values.Values.{Values}
use Rattle.texts.specs.Left.{left}
use Rattle.texts.specs.Tapes.{quote_line}
use Rattle.texts.specs.Montages.{venue_line}
use Rattle.sources.specs.declared.source.Reader.{Reader}
use Rattle.sources.specs.declared.montage.MontageQuotes.{MontageQuotes}
use Rattle.sources.specs.Montages.{table_quotes}

abbrev pub quotes_of : {g : _} → Reader (Values Quote g) → List Quote
quotes_of t = t.quote ∷ left quote_line t.later

-- those of the lines left
abbrev pub montage_coming : MontageQuotes → List Quote
montage_coming m = table_quotes m.venues.rows (left venue_line m.lines)

abbrev pub montage_left : Reader MontageQuotes → List Quote
montage_left m = m.quote ∷ montage_coming m.later
