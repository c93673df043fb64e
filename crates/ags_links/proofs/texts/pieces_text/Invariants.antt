use Rattle.std.proofs.Common.{◌≡◌, take, flat_map}
use Rattle.ags_links.proofs.Cutting.{piece_byte}
use Rattle.ags_links.proofs.texts.pieces_text.Given as goal

abbrev pub invariant-loop-byte : goal.invariant-loop-byte
invariant-loop-byte l = l.text.items ≡ flat_map (piece_byte l.delimiter) (take l.byte-index l.part)
