-- What a montage says.
use Rattle.std.specs.Prelude.{ℕ, Bool, ◌&&◌, List, [], ◌∷◌, ◌++◌, codes, decimal, Result}
use Rattle.std.specs.Result.{result_map_both}
use Rattle.market.specs.Quotes.{formed}
use Rattle.market.specs.Venues.{is_venue}
use Rattle.texts.specs.declared.refusal.Fault.{Fault}
use Rattle.texts.specs.declared.field.VenueNumber.{VenueNumber}
use Rattle.texts.specs.FieldKinds.{venue_number_field}
use Rattle.texts.specs.Fields.{Reader, field, line}
use Rattle.texts.specs.Writing.{fields_text}
use Rattle.texts.specs.declared.montage.VenueQuote.{VenueQuote}
use Rattle.texts.specs.declared.refusal.TextRefusal.{TextRefusal}
use Rattle.texts.specs.Texts.{text}
use Rattle.texts.specs.Tapes.{quote_fields, quote_parts}

-- the venue's number, and then the fields of a tape
abbrev pub of_venue : VenueNumber → Reader VenueQuote
of_venue venue at = result_map_both (λ quote. record { venue = venue.number; quote = quote }) (λ fault. fault) (quote_fields at)

abbrev pub venue_line : List ℕ → Result VenueQuote Fault
venue_line = line (field venue_number_field of_venue)

-- how a line is written
abbrev pub venue_text : VenueQuote → List ℕ
venue_text l = fields_text (decimal l.venue ∷ quote_parts l.quote)

-- one of the sixteen venues, and a formed quote
abbrev pub is_venue_quote : VenueQuote → Bool
is_venue_quote l = is_venue l.venue && formed l.quote

-- the first line, with its LF
abbrev pub montage_header : List ℕ
montage_header = codes "venue,bid,offer,ref" ++ 10 ∷ []

-- the lines of a montage, or where the text is refused
abbrev pub montage : List ℕ → Result (List VenueQuote) TextRefusal
montage bs = text montage_header venue_line 1 65535 bs
