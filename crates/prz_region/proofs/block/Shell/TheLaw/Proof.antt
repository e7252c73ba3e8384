-- A `&` to it holds nothing. Assumes `Logic`.
use base.Fraction.{full_share}
use denote.RattleType.{RattleType}
use denote.Memory.{part_at}
use denote.Param.Laws.{Laws}
use denote.SharingLaws.{nothing_shr_laws}
use denote.Struct.Lending.{Lends-nothing}
use Rattle.core.specs.declared.alloc.Allocator.{Ghosts}
use Rattle.prz_region.specs.contracts.block.Shell as C
use Rattle.prz_region.proofs.block.Shell.TheLaw.Statement.{statement}

pub shares : (R B : RattleType) (g : Ghosts B.Denot) (L : Laws R) (K : Laws B) → statement R B g L K
shares R B g L K = record {
  shr_laws = λ d b o. nothing_shr_laws;
  shares = λ M 𝓤 𝓛 d κ ts b o. Lends-nothing 𝓛 (part_at (C.the_written R B g) full_share d b o)
      (C.the_written R B g).lives κ ts;
}
