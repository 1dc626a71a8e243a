use Rattle.texts.proofs.FieldsWritten as fields
use Rattle.texts.proofs.field.kinds_hold.Goals as goal

pub returns : goal.returns
returns c = record {
  number = fields.numbers_written fields.plain_number;
  firm = fields.numbers_written fields.firm_number;
  grid_price = fields.numbers_written fields.grid_price;
  price_or_none = fields.numbers_written fields.price_or_none;
  venue_number = fields.numbers_written fields.venue_number;
  side = fields.side_written;
  kind = fields.kind_written;
  call_word = fields.call_word_written;
  unused = fields.unused_written;
}
