-- The nodes of all lines
use Rattle.std.proofs.Common.{◌≡◌, ℕ, ◌+◌, ◌<◌, suc, List, [], ◌∷◌, ◌++◌, length, drop, refl, ap, sym, ◌∙◌, add-one}
use Rattle.std.proofs.Common.{append_assoc, drop-cons, get_or, Result, Ok, Err}
use Rattle.std.specs.Prelude.{map}
use Rattle.std.specs.Global.{Vec}
use Rattle.std.proofs.lemmas.List.{append-nil, map-append}
use Rattle.dtb_spec.specs.Cells.{◌>>=◌}
use Rattle.dtb_spec.specs.Ramoops.{Ramoops, node_of, nodes_in, nodes_between}
use Rattle.dtb_spec.specs.declared.Fault.{Fault}
use Rattle.dtb.specs.declared.Node.{Node}
use Rattle.dtb.specs.declared.DtbError.{DtbError}
use Rattle.dtb.specs.declared.DtbError.TheVariants.{Memory, Broken}
use Rattle.dtb.specs.Walks.{HasLines, GivesLines}
use Rattle.dtb.specs.ReaderAnswers.{shown, GivesNode, Answers}

abbrev pub items_of : List (Vec ℕ) → List (List ℕ)
items_of lines = map (λ line. line.items) lines

abbrev pub after_these : List Ramoops → Result (List Ramoops) Fault → Result (List Ramoops) Fault
after_these nodes (Ok more) = Ok (nodes ++ more)
after_these nodes (Err fault) = Err fault

-- the nodes of all lines are these, and then those of the lines that are left
pub record IsTold (structure strings : List ℕ) (all left : List (Vec ℕ)) (nodes : List Node) : Type 0 where
  pub same : nodes_in structure strings (items_of all)
      ≡ after_these (map shown nodes) (nodes_in structure strings (items_of left))

after_none : (read : Result (List Ramoops) Fault) → read ≡ after_these [] read
after_none (Ok more) = refl
after_none (Err fault) = refl

pub told_none : (structure strings : List ℕ) (all left : List (Vec ℕ)) (nodes : List Node) → left ≡ all → nodes ≡ []
    → IsTold structure strings all left nodes
told_none structure strings all left nodes e g = record {
  same = rw (e, g) (after_none (nodes_in structure strings (items_of all)));
}

after_one : (nodes : List Ramoops) (node : Ramoops) (read : Result (List Ramoops) Fault)
    → after_these nodes (read >>= (λ more. Ok (node ∷ more))) ≡ after_these (nodes ++ node ∷ []) read
after_one nodes node (Ok more) = ap (λ (xs : List Ramoops). Ok xs) (sym (append_assoc nodes (node ∷ []) more))
after_one nodes node (Err fault) = refl

nodes_more : (structure strings line : List ℕ) (lines : List (List ℕ)) (node : Ramoops)
    → node_of structure strings line ≡ Ok node
    → nodes_in structure strings (line ∷ lines) ≡ (nodes_in structure strings lines >>= (λ more. Ok (node ∷ more)))
unfolding nodes_in
nodes_more structure strings line lines node e = rw e refl

nodes_fault : (structure strings line : List ℕ) (lines : List (List ℕ)) (fault : Fault)
    → node_of structure strings line ≡ Err fault → nodes_in structure strings (line ∷ lines) ≡ Err fault
unfolding nodes_in
nodes_fault structure strings line lines fault e = rw e refl

pub told_more : (structure strings : List ℕ) (all left : List (Vec ℕ)) (line : Vec ℕ) (lines : List (Vec ℕ))
    (nodes new : List Node) (node : Node) → left ≡ line ∷ lines → node_of structure strings line.items ≡ Ok (shown node)
    → new ≡ nodes ++ node ∷ []
    → IsTold structure strings all left nodes → IsTold structure strings all lines new
told_more structure strings all left line lines nodes new node e h g told = record {
  same = told.same ∙ ap (λ xs. after_these (map shown nodes) (nodes_in structure strings (items_of xs))) e
      ∙ ap (after_these (map shown nodes)) (nodes_more structure strings line.items (items_of lines) (shown node) h)
      ∙ after_one (map shown nodes) (shown node) (nodes_in structure strings (items_of lines))
      ∙ ap (λ xs. after_these xs (nodes_in structure strings (items_of lines)))
      (sym (ap (map shown) g ∙ map-append shown nodes (node ∷ [])));
}

pub told_fault : (structure strings : List ℕ) (all left : List (Vec ℕ)) (line : Vec ℕ) (lines : List (Vec ℕ))
    (nodes : List Node) (fault : Fault) → left ≡ line ∷ lines → node_of structure strings line.items ≡ Err fault
    → IsTold structure strings all left nodes → nodes_in structure strings (items_of all) ≡ Err fault
told_fault structure strings all left line lines nodes fault e h told =
    told.same ∙ ap (λ xs. after_these (map shown nodes) (nodes_in structure strings (items_of xs))) e
    ∙ ap (after_these (map shown nodes)) (nodes_fault structure strings line.items (items_of lines) fault h)

nodes_none : (structure strings : List ℕ) → nodes_in structure strings [] ≡ Ok []
unfolding nodes_in
nodes_none structure strings = refl

pub told_all : (structure strings : List ℕ) (all left : List (Vec ℕ)) (nodes : List Node) → left ≡ []
    → IsTold structure strings all left nodes → nodes_in structure strings (items_of all) ≡ Ok (map shown nodes)
told_all structure strings all left nodes e told =
    told.same ∙ ap (λ xs. after_these (map shown nodes) (nodes_in structure strings (items_of xs))) e
    ∙ ap (after_these (map shown nodes)) (nodes_none structure strings)
    ∙ ap (λ (xs : List Ramoops). Ok xs) (append-nil (map shown nodes))

-- ---- between the blocks

pub between_is : (structure strings : List ℕ) (found : Vec (Vec ℕ)) → HasLines structure strings found
    → nodes_between structure strings ≡ nodes_in structure strings (items_of found.items)
unfolding nodes_between
between_is structure strings found h = rw h.read (ap (nodes_in structure strings) (sym h.kept))

pub lines_stop : (structure strings : List ℕ) (error : DtbError) → GivesLines structure strings (Err error)
    → Answers (Err error) (nodes_between structure strings)
unfolding nodes_between
lines_stop structure strings Memory h = tt
lines_stop structure strings (Broken fault) h = rw h refl

-- the line that is left first
pub left_is : (lines : List (Vec ℕ)) (i : ℕ) (line : Vec ℕ) → i < length lines → line ≡ get_or lines i line
    → drop i lines ≡ line ∷ drop (i + 1) lines
left_is lines i line h e = rw add-one (drop-cons lines i line h ∙ ap (λ (x : Vec ℕ). x ∷ drop (suc i) lines) (sym e))

among : (structure strings : List ℕ) (found : Vec (Vec ℕ)) (all : List (Vec ℕ)) → all ≡ found.items
    → HasLines structure strings found → nodes_between structure strings ≡ nodes_in structure strings (items_of all)
among structure strings found all is h =
    between_is structure strings found h ∙ ap (λ xs. nodes_in structure strings (items_of xs)) (sym is)

pub node_stop : (structure strings : List ℕ) (found : Vec (Vec ℕ)) (all left : List (Vec ℕ)) (line : Vec ℕ)
    (lines : List (Vec ℕ)) (nodes : List Node) (error : DtbError) → all ≡ found.items → HasLines structure strings found
    → left ≡ line ∷ lines → GivesNode (Err error) (node_of structure strings line.items)
    → IsTold structure strings all left nodes → Answers (Err error) (nodes_between structure strings)
node_stop structure strings found all left line lines nodes Memory is h e g told = tt
node_stop structure strings found all left line lines nodes (Broken fault) is h e g told =
    among structure strings found all is h ∙ told_fault structure strings all left line lines nodes fault e g told

pub all_told : (structure strings : List ℕ) (found : Vec (Vec ℕ)) (all left : List (Vec ℕ)) (nodes : List Node)
    → all ≡ found.items → HasLines structure strings found → left ≡ [] → IsTold structure strings all left nodes
    → nodes_between structure strings ≡ Ok (map shown nodes)
all_told structure strings found all left nodes is h e told =
    among structure strings found all is h ∙ told_all structure strings all left nodes e told
