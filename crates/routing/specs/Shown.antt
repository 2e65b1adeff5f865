-- Bytes as people may see them.
use Rattle.std.specs.Prelude.{ℕ, cond, ◌&&◌, List, map, nat_le}

-- printable ASCII as it is, any other byte as '?'
abbrev pub glyph : ℕ → ℕ
glyph b = cond (nat_le 32 b && nat_le b 126) b 63

abbrev pub glyphs : List ℕ → List ℕ
glyphs bs = map glyph bs
