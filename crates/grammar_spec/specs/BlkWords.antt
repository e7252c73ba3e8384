-- Parameters as words `key=value` (a project's own)
use Rattle.std.specs.Prelude.{ℕ, List, [], ◌∷◌, codes, unwrap_or, Option, Result}
use Rattle.std.specs.declared.string.String.{String}
use Rattle.std.specs.declared.alloc.Global.{Global}
use Rattle.blk_spec.specs.declared.BlkParams.{BlkParams}
use Rattle.grammar_spec.specs.declared.faults.ParamFault.{ParamFault}
use Rattle.grammar_spec.specs.Words.{KeyTable, ok_unless, texts, first_fault as first_fault_by, given as given_by}

-- the keys, which have no prefix
abbrev pub keys : KeyTable
keys = record {
  prefix = [];
  names = codes "total_size" ∷ codes "kmsg_size" ∷ codes "console_size" ∷ codes "pmsg_size" ∷ [];
  first = record { key = []; texts = [] };
  second = record { key = []; texts = [] };
}

-- the first faulty word among these, behind those
abbrev pub first_fault : List (List ℕ) → List (List ℕ) → Option ParamFault
first_fault earlier words = first_fault_by keys earlier words

-- the number that the words give a key
abbrev pub given : List (List ℕ) → List ℕ → Option ℕ
given words key = given_by keys words key

-- the parameters, each its default where no word gives it
abbrev pub params_of : List (List ℕ) → BlkParams
params_of words = record {
  total = unwrap_or (given words (codes "total_size")) 0;
  kmsg = unwrap_or (given words (codes "kmsg_size")) 65536;
  console = unwrap_or (given words (codes "console_size")) 65536;
  pmsg = unwrap_or (given words (codes "pmsg_size")) 65536;
}

-- the parameters of these words, or the first fault
abbrev pub read_of : List (String Global) → Result BlkParams ParamFault
read_of words = ok_unless (first_fault [] (texts words)) (params_of (texts words))
