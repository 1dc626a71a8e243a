-- The quotes of a montage: one a line, made of what each venue showed last.
use Rattle.std.specs.Prelude.{ℕ, ◌-◌, cond, List, [], ◌∷◌, map, None, ◌==◌, slice_set}
use Rattle.std.specs.List.{range_with_len}
use Rattle.std.specs.Result.{result_unwrap_or}
use Rattle.market.specs.declared.quote.Quote.{Quote}
use Rattle.market.specs.declared.side.Side.TheVariants.{Buy, Sell}
use Rattle.market.specs.declared.venue.Venue.{Venue}
use Rattle.market.specs.Venues.{showing, best}
use Rattle.texts.specs.declared.montage.VenueQuote.{VenueQuote}
use Rattle.texts.specs.Montages.{montage}
use Rattle.sources.specs.Sources.{or_stand_in}

-- the bid and the offer that a line gives its venue
abbrev pub shown : VenueQuote → Venue
shown l = showing l.quote

-- what the venue n showed last, of the lines past, the latest first; nothing before its first line
abbrev pub latest : ℕ → List VenueQuote → Venue
latest n [] = record { bid = None; offer = None }
latest n (l ∷ past) = cond (n == l.venue) (shown l) (latest n past)

-- the venues 1 to 16
abbrev pub venues_after : List VenueQuote → List Venue
venues_after past = map (λ n. latest n past) (range_with_len 1 16)

-- the highest bid, the lowest offer, and the reference price
abbrev pub best_quote : List Venue → ℕ → Quote
best_quote vs reference = record { bid = best Buy vs; offer = best Sell vs; reference = reference }

-- the quotes that the lines give, after the lines past
abbrev pub quotes_after : List VenueQuote → List VenueQuote → List Quote
quotes_after past [] = []
quotes_after past (l ∷ ls) = best_quote (venues_after (l ∷ past)) l.quote.reference ∷ quotes_after (l ∷ past) ls

-- the quotes of a montage; one in their place if the text is no montage
abbrev pub montage_quotes : List ℕ → List Quote
montage_quotes bs = or_stand_in (quotes_after [] (result_unwrap_or (montage bs) []))

-- A TABLE OF THE VENUES

-- the table after a line: that of its venue changes
abbrev pub changed : VenueQuote → List Venue → List Venue
changed l vs = slice_set vs (l.venue - 1) (shown l)

-- the quotes that the lines give, from a table on
abbrev pub table_quotes : List Venue → List VenueQuote → List Quote
table_quotes vs [] = []
table_quotes vs (l ∷ ls) = best_quote (changed l vs) l.quote.reference ∷ table_quotes (changed l vs) ls
