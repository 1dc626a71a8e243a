-- The law of the kinds of field.
use Rattle.std.specs.Prelude.{decimal}
use Rattle.texts.specs.FieldKinds.{number_field, is_number, firm_field, is_firm, grid_price_field, grid_price_text, is_grid_price, price_or_none_field, price_or_none_text, is_price_or_none, venue_number_field, venue_number_text, is_venue_number, any, side_field, side_text, kind_field, kind_text, call_word_field, call_word_text, unused_field, unused_text}
use Rattle.texts.specs.Writing.{plain, Written}

-- each kind of field reads what is written of its values, and nothing else
pub record KindsWritten : Type 0 where
  pub number : Written plain number_field decimal is_number
  pub firm : Written plain firm_field decimal is_firm
  pub grid_price : Written plain grid_price_field grid_price_text is_grid_price
  pub price_or_none : Written plain price_or_none_field price_or_none_text is_price_or_none
  pub venue_number : Written plain venue_number_field venue_number_text is_venue_number
  pub side : Written plain side_field side_text any
  pub kind : Written plain kind_field kind_text any
  pub call_word : Written plain call_word_field call_word_text any
  pub unused : Written plain unused_field unused_text any
