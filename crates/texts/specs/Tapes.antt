-- What a tape says.
use Rattle.std.specs.Prelude.{ℕ, List, [], ◌∷◌, ◌++◌, codes, decimal, Result}
use Rattle.std.specs.Option.{unwrap_or}
use Rattle.market.specs.declared.quote.Quote.{Quote}
use Rattle.texts.specs.declared.field.GridPrice.{GridPrice}
use Rattle.texts.specs.declared.field.PriceOrNone.{PriceOrNone}
use Rattle.texts.specs.declared.refusal.Fault.{Fault}
use Rattle.texts.specs.declared.refusal.TextRefusal.{TextRefusal}
use Rattle.texts.specs.FieldKinds.{price_or_none_field, grid_price_field}
use Rattle.texts.specs.Fields.{Reader, field, done, line}
use Rattle.texts.specs.Writing.{fields_text}
use Rattle.texts.specs.Texts.{text}

abbrev pub quote_of : PriceOrNone → PriceOrNone → GridPrice → Quote
quote_of bid offer reference = record { bid = bid.price; offer = offer.price; reference = reference.price }

abbrev pub quote_fields : Reader Quote
quote_fields =
    field price_or_none_field (λ bid.
    field price_or_none_field (λ offer.
    field grid_price_field (λ reference.
    done (quote_of bid offer reference))))

abbrev pub quote_line : List ℕ → Result Quote Fault
quote_line = line quote_fields

-- how a quote is written: 0 for no bid or no offer
abbrev pub quote_parts : Quote → List (List ℕ)
quote_parts q = decimal (unwrap_or q.bid 0) ∷ decimal (unwrap_or q.offer 0) ∷ decimal q.reference ∷ []

abbrev pub quote_text : Quote → List ℕ
quote_text q = fields_text (quote_parts q)

-- the first line, with its LF
abbrev pub tape_header : List ℕ
tape_header = codes "bid,offer,ref" ++ 10 ∷ []

-- the quotes of a tape, or where the text is refused
abbrev pub tape : List ℕ → Result (List Quote) TextRefusal
tape bs = text tape_header quote_line 1 65535 bs
