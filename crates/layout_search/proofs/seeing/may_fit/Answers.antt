-- With too many marks, or too many places that begin no zone, each layout of these four rows has
-- more faults than the limit. For `may_fit`.
use Rattle.std.proofs.Common.{[], ◌∷◌, refl, arith}
use Rattle.layout_search.specs.Seen.{row_end}
use Rattle.layout_search.proofs.Bounds.{faults_by_rows, far_four, marked_four, few_four, marked_within}
use Rattle.layout_search.proofs.seeing.may_fit.Goals as goal

pub returns-then-marks-limit : goal.returns-then-marks-limit
returns-then-marks-limit c = λ h p. omega (
  arith,
  c.requires.marks,
  faults_by_rows c.args.image.now p (c.args.dumps ∷ c.args.console ∷ c.args.next ∷ c.args.last ∷ []),
  few_four c.args.image.now c.args.dumps c.args.console c.args.next c.args.last,
)

pub returns-in_default : goal.returns-in_default
returns-in_default c = λ h p. omega (
  arith,
  c.requires.marks,
  faults_by_rows c.args.image.now p (c.args.dumps ∷ c.args.console ∷ c.args.next ∷ c.args.last ∷ []),
  c.in_default.ensures,
  far_four c.args.image.now c.args.dumps c.args.console c.args.next c.args.last c.end_of-second.result c.end_of-third.result (row_end c.args.next c.end_of-third.result) c.end_of-second.ensures.value c.end_of-third.ensures.value refl,
  marked_four c.args.image.now c.args.dumps c.args.console c.args.next c.args.last c.end_of-second.result c.end_of-third.result (row_end c.args.next c.end_of-third.result) c.end_of-second.ensures.value c.end_of-third.ensures.value refl,
)

pub returns-in_default-see : goal.returns-in_default-see
returns-in_default-see c = λ h p. omega (
  arith,
  c.requires.marks,
  faults_by_rows c.args.image.now p (c.args.dumps ∷ c.args.console ∷ c.args.next ∷ c.args.last ∷ []),
  c.in-Some.ensures.far,
  c.in_default-see.ensures,
  far_four c.args.image.now c.args.dumps c.args.console c.args.next c.args.last c.end_of-second.result c.end_of-third.result c.end_of.result c.end_of-second.ensures.value c.end_of-third.ensures.value c.end_of.ensures.value,
  marked_four c.args.image.now c.args.dumps c.args.console c.args.next c.args.last c.end_of-second.result c.end_of-third.result c.end_of.result c.end_of-second.ensures.value c.end_of-third.ensures.value c.end_of.ensures.value,
)

pub returns-then-marks-two : goal.returns-then-marks-two
returns-then-marks-two c = λ h p. omega (
  arith,
  c.requires.marks,
  faults_by_rows c.args.image.now p (c.args.dumps ∷ c.args.console ∷ c.args.next ∷ c.args.last ∷ []),
  c.in-Some.ensures.far,
  c.in-Some.ensures.marked,
  c.in-Some-see.ensures.far,
  c.in-Some-see.ensures.marked,
  marked_within c.args.image.now c.args.dumps 0,
  marked_within c.args.image.now c.args.console c.end_of-second.result,
  far_four c.args.image.now c.args.dumps c.args.console c.args.next c.args.last c.end_of-second.result c.end_of-third.result c.end_of.result c.end_of-second.ensures.value c.end_of-third.ensures.value c.end_of.ensures.value,
  marked_four c.args.image.now c.args.dumps c.args.console c.args.next c.args.last c.end_of-second.result c.end_of-third.result c.end_of.result c.end_of-second.ensures.value c.end_of-third.ensures.value c.end_of.ensures.value,
)

pub returns-in_default-see-2 : goal.returns-in_default-see-2
returns-in_default-see-2 c = λ h p. omega (
  arith,
  c.requires.marks,
  faults_by_rows c.args.image.now p (c.args.dumps ∷ c.args.console ∷ c.args.next ∷ c.args.last ∷ []),
  c.in-Some.ensures.far,
  c.in-Some-see.ensures.far,
  c.in_default-see-2.ensures,
  far_four c.args.image.now c.args.dumps c.args.console c.args.next c.args.last c.end_of-second.result c.end_of-third.result c.end_of.result c.end_of-second.ensures.value c.end_of-third.ensures.value c.end_of.ensures.value,
  marked_four c.args.image.now c.args.dumps c.args.console c.args.next c.args.last c.end_of-second.result c.end_of-third.result c.end_of.result c.end_of-second.ensures.value c.end_of-third.ensures.value c.end_of.ensures.value,
)

pub returns-in_default-see-3 : goal.returns-in_default-see-3
returns-in_default-see-3 c = λ h p. omega (
  arith,
  c.requires.marks,
  faults_by_rows c.args.image.now p (c.args.dumps ∷ c.args.console ∷ c.args.next ∷ c.args.last ∷ []),
  c.in-Some.ensures.far,
  c.in-Some-see.ensures.far,
  c.in-Some-see-2.ensures.far,
  c.in_default-see-3.ensures,
  far_four c.args.image.now c.args.dumps c.args.console c.args.next c.args.last c.end_of-second.result c.end_of-third.result c.end_of.result c.end_of-second.ensures.value c.end_of-third.ensures.value c.end_of.ensures.value,
  marked_four c.args.image.now c.args.dumps c.args.console c.args.next c.args.last c.end_of-second.result c.end_of-third.result c.end_of.result c.end_of-second.ensures.value c.end_of-third.ensures.value c.end_of.ensures.value,
)

pub returns-then-marks-four : goal.returns-then-marks-four
returns-then-marks-four c = λ h p. omega (
  arith,
  c.requires.marks,
  faults_by_rows c.args.image.now p (c.args.dumps ∷ c.args.console ∷ c.args.next ∷ c.args.last ∷ []),
  c.in-Some.ensures.far,
  c.in-Some.ensures.marked,
  c.in-Some-see.ensures.far,
  c.in-Some-see.ensures.marked,
  c.in-Some-see-2.ensures.far,
  c.in-Some-see-2.ensures.marked,
  c.in-Some-see-3.ensures.far,
  c.in-Some-see-3.ensures.marked,
  far_four c.args.image.now c.args.dumps c.args.console c.args.next c.args.last c.end_of-second.result c.end_of-third.result c.end_of.result c.end_of-second.ensures.value c.end_of-third.ensures.value c.end_of.ensures.value,
  marked_four c.args.image.now c.args.dumps c.args.console c.args.next c.args.last c.end_of-second.result c.end_of-third.result c.end_of.result c.end_of-second.ensures.value c.end_of-third.ensures.value c.end_of.ensures.value,
)
