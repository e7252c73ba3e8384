-- A piece of an image
use Rattle.std.specs.Prelude.{◌≡◌, ℕ, ◌+◌, ◌≤◌, List, length, take, drop, Option, IfSome}
use Rattle.storage_report.specs.declared.scanning.Piece.{Piece}

pub record IsPieceOf (holds : Option (List ℕ)) (p : Piece) : Type 0 where
  pub room : length p.bytes.items ≡ 65536
  pub few : p.len ≤ 65536
  pub bytes : IfSome holds (λ image. take p.len p.bytes.items ≡ take p.len (drop p.from image))

-- the 512 bytes from a place on stand in it
pub record HasBlock (at : ℕ) (p : Piece) : Type 0 where
  pub from : p.from ≤ at
  pub inside : at + 512 ≤ p.from + p.len
