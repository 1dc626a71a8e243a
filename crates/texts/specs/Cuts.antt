-- The pieces that are left of some bytes.
use Rattle.std.specs.Prelude.{ℕ, List}
use Rattle.texts.specs.declared.pieces.Pieces.{Pieces}
use Rattle.texts.specs.Pieces.{pieces}

abbrev pub cuts : Pieces → List (List ℕ)
cuts p = pieces p.end p.bytes.now
