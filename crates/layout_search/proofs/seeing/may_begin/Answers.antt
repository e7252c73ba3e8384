-- With too many marks, or too many places that begin no zone, each layout with these two rows in
-- front has more faults than the limit. For `may_begin`.
use Rattle.std.proofs.Common.{◌∷◌, refl, arith}
use Rattle.layout_search.specs.Seen.{row_end}
use Rattle.layout_search.proofs.Bounds.{faults_by_rows, far_two, marked_two, few_two}
use Rattle.layout_search.proofs.seeing.may_begin.Goals as goal

pub returns-then-marks-limit : goal.returns-then-marks-limit
returns-then-marks-limit c = λ h p rest few. omega (
  arith,
  c.requires.marks,
  faults_by_rows c.args.image.now p (c.args.dumps ∷ c.args.console ∷ rest),
  few_two c.args.image.now c.args.dumps c.args.console rest,
)

pub returns-in_default : goal.returns-in_default
returns-in_default c = λ h p rest few. omega (
  arith,
  c.requires.marks,
  faults_by_rows c.args.image.now p (c.args.dumps ∷ c.args.console ∷ rest),
  c.in_default.ensures,
  far_two c.args.image.now c.args.dumps c.args.console (row_end c.args.dumps 0) rest refl,
  marked_two c.args.image.now c.args.dumps c.args.console (row_end c.args.dumps 0) rest refl,
)

pub returns-in_default-see : goal.returns-in_default-see
returns-in_default-see c = λ h p rest few. omega (
  arith,
  c.requires.marks,
  faults_by_rows c.args.image.now p (c.args.dumps ∷ c.args.console ∷ rest),
  c.in-Some.ensures.far,
  c.in_default-see.ensures,
  far_two c.args.image.now c.args.dumps c.args.console c.end_of.result rest c.end_of.ensures.value,
  marked_two c.args.image.now c.args.dumps c.args.console c.end_of.result rest c.end_of.ensures.value,
)

pub returns-then-marks-both : goal.returns-then-marks-both
returns-then-marks-both c = λ h p rest few. omega (
  arith,
  c.requires.marks,
  faults_by_rows c.args.image.now p (c.args.dumps ∷ c.args.console ∷ rest),
  c.in-Some.ensures.far,
  c.in-Some.ensures.marked,
  c.in-Some-see.ensures.far,
  c.in-Some-see.ensures.marked,
  far_two c.args.image.now c.args.dumps c.args.console c.end_of.result rest c.end_of.ensures.value,
  marked_two c.args.image.now c.args.dumps c.args.console c.end_of.result rest c.end_of.ensures.value,
)
