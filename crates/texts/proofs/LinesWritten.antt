-- Each kind of line reads what is written, and nothing else.
use Rattle.std.specs.Prelude.{◌≡◌, ℕ, ◌<◌, true, ◌&&◌, List, [], ◌∷◌, length, decimal, refl}
use Rattle.std.proofs.Common.{arith, length-append}
use Rattle.std.specs.List.{AllByRecursion}
use Rattle.std.proofs.lemmas.Bool.{and_from, and_parts}
use Rattle.market.specs.declared.quote.Quote.{Quote}
use Rattle.market.specs.Prices.{on_grid}
use Rattle.market.specs.Quotes.{quotable, formed}
use Rattle.market.specs.Venues.{is_venue}
use Rattle.texts.specs.FieldKinds.{grid_price_field, grid_price_text, is_grid_price, price_or_none_field, price_or_none_text, is_price_or_none, venue_number_field, venue_number_text, is_venue_number}
use Rattle.texts.specs.Fields.{field, AtAByte}
use Rattle.texts.specs.Writing.{plain, one_line, Written}
use Rattle.texts.proofs.FieldsWritten.{numbers_written, grid_price, price_or_none, venue_number}
use Rattle.texts.proofs.Spelling.{Spelled, Part, done_spelled, field_spelled, mapped_spelled, line_spelled, line_back, fields_line, line_end, some_part, last_part, comma_part, made_last, comma_made}
use Rattle.texts.proofs.Columns.{Inside, done_inside, field_inside, mapped_inside, line_at}
use Rattle.texts.specs.declared.montage.VenueQuote.{VenueQuote}
use Rattle.texts.specs.Montages.{of_venue, venue_line, venue_text, is_venue_quote}
use Rattle.texts.specs.Tapes.{quote_of, quote_fields, quote_line, quote_parts, quote_text}

-- QUOTES

bid_or_offer : Written plain price_or_none_field price_or_none_text is_price_or_none
bid_or_offer = numbers_written price_or_none

on_the_grid : Written plain grid_price_field grid_price_text is_grid_price
on_the_grid = numbers_written grid_price

abbrev QuoteParts : Quote → List ℕ → Type 0
QuoteParts =
    Part price_or_none_text is_price_or_none (λ bid.
    Part price_or_none_text is_price_or_none (λ offer.
    Part grid_price_text is_grid_price (λ reference q s.
    (q ≡ quote_of bid offer reference) × (s ≡ []))))

quote_spelled : Spelled quote_fields QuoteParts
quote_spelled =
    field_spelled bid_or_offer _ _ (λ bid.
    field_spelled bid_or_offer _ _ (λ offer.
    field_spelled on_the_grid _ _ (λ reference.
    done_spelled (quote_of bid offer reference))))

formed_parts : (q : Quote) → formed q ≡ true → (quotable q.bid ≡ true) × (quotable q.offer ≡ true) × (on_grid q.reference ≡ true)
formed_parts q ok =
    let all = and_parts (quotable q.bid && quotable q.offer) (on_grid q.reference) ok in
    let both = and_parts (quotable q.bid) (quotable q.offer) all.0 in
    (both.0, both.1, all.1)

quote_parts_read : (q : Quote) (s : List ℕ) → QuoteParts q s → (formed q ≡ true) × (s ≡ quote_text q)
quote_parts_read q s p =
    let p2 = p.rest in
    let p3 = p2.rest in
    let e3 = last_part p3 p3.rest.1 in
    let e2 = comma_part p2 _ (some_part p3) e3 in
    let e1 = comma_part p _ (some_part p2) e2 in
    let is = p3.rest.0 in
    (rw is (and_from _ _ (and_from _ _ p.fits p2.fits) p3.fits), rw is e1)

quote_made : (q : Quote) → formed q ≡ true → QuoteParts q (quote_text q)
quote_made q ok =
    let f = formed_parts q ok in
    comma_made (record { price = q.bid }) f.0 _ (simp length-append (omega arith))
    (comma_made (record { price = q.offer }) f.1 _ (simp length-append (omega arith))
    (made_last (record { price = q.reference }) f.2 (refl, refl)))

quote_plain : (q : Quote) → formed q ≡ true → AllByRecursion (λ f. plain f ≡ true) (quote_parts q)
quote_plain q ok =
    let f = formed_parts q ok in
    (bid_or_offer.shaped (record { price = q.bid }) f.0, (bid_or_offer.shaped (record { price = q.offer }) f.1, (on_the_grid.shaped (record { price = q.reference }) f.2, tt)))

quote_shaped : (q : Quote) → formed q ≡ true → one_line (quote_text q) ≡ true
quote_shaped q ok = fields_line (quote_parts q) (quote_plain q ok)

pub quote_written : Written one_line quote_line quote_text formed
quote_written = record {
  read = λ l q is. quote_parts_read q l (line_spelled quote_fields QuoteParts quote_spelled l q is);
  back = λ q ok. line_back quote_fields QuoteParts quote_spelled (quote_text q) q (line_end (quote_text q) (quote_shaped q ok)) (quote_made q ok);
  shaped = quote_shaped;
}

-- LINES OF A MONTAGE

of_a_venue : Written plain venue_number_field venue_number_text is_venue_number
of_a_venue = numbers_written venue_number

abbrev VenueParts : VenueQuote → List ℕ → Type 0
VenueParts =
    Part venue_number_text is_venue_number (λ venue l s.
    (q : Quote) × (l ≡ record { venue = venue.number; quote = q }) × QuoteParts q s)

venue_spelled : Spelled (field venue_number_field of_venue) VenueParts
venue_spelled = field_spelled of_a_venue of_venue _ (λ venue. mapped_spelled (λ q. record { venue = venue.number; quote = q }) quote_fields QuoteParts quote_spelled)

venue_parts_read : (l : VenueQuote) (s : List ℕ) → VenueParts l s → (is_venue_quote l ≡ true) × (s ≡ venue_text l)
venue_parts_read l s p =
    let q = p.rest in
    let r = quote_parts_read q.0 p.after q.2 in
    let e = comma_part p _ (some_part q.2) r.1 in
    (rw q.1 (and_from _ _ p.fits r.0), rw q.1 e)

known_and_formed : (l : VenueQuote) → is_venue_quote l ≡ true → (is_venue l.venue ≡ true) × (formed l.quote ≡ true)
known_and_formed l ok = and_parts (is_venue l.venue) (formed l.quote) ok

venue_made : (l : VenueQuote) → is_venue_quote l ≡ true → VenueParts l (venue_text l)
venue_made l ok =
    let f = known_and_formed l ok in
    comma_made (record { number = l.venue }) f.0 (quote_text l.quote) (some_part (quote_made l.quote f.1)) (l.quote, refl, quote_made l.quote f.1)

venue_shaped : (l : VenueQuote) → is_venue_quote l ≡ true → one_line (venue_text l) ≡ true
venue_shaped l ok =
    let f = known_and_formed l ok in
    fields_line (decimal l.venue ∷ quote_parts l.quote) (of_a_venue.shaped (record { number = l.venue }) f.0, quote_plain l.quote f.1)

pub venue_written : Written one_line venue_line venue_text is_venue_quote
venue_written = record {
  read = λ l x is. venue_parts_read x l (line_spelled (field venue_number_field of_venue) VenueParts venue_spelled l x is);
  back = λ x ok. line_back (field venue_number_field of_venue) VenueParts venue_spelled (venue_text x) x (line_end (venue_text x) (venue_shaped x ok)) (venue_made x ok);
  shaped = venue_shaped;
}

-- WHERE FAULTS ARE

quote_inside : Inside quote_fields
quote_inside =
    field_inside price_or_none_field _ (λ bid.
    field_inside price_or_none_field _ (λ offer.
    field_inside grid_price_field _ (λ reference.
    done_inside (quote_of bid offer reference))))

pub quote_placed : (l : List ℕ) → 0 < length l → AtAByte (length l) (quote_line l)
quote_placed = line_at quote_fields quote_inside

pub venue_placed : (l : List ℕ) → 0 < length l → AtAByte (length l) (venue_line l)
venue_placed = line_at (field venue_number_field of_venue) (field_inside venue_number_field of_venue (λ venue. mapped_inside (λ q. record { venue = venue.number; quote = q }) quote_fields quote_inside))
