-- How the stages of a command that reads an image of a size and then a script end, as far as each is told alone
use Rattle.std.proofs.Common.{◌≡◌, ℕ, ◌<◌, ◌≤◌, List, length, Option, Some, Ok, Err, IfSome, refl, arith, inl, inr}
use Rattle.std.proofs.Common.{IsOk}
use Rattle.std.specs.Io.KnownBytes.{IsAtEnd}
use Rattle.grammar_spec.specs.Lines.{script_of}
use Rattle.grammar_spec.specs.declared.line.Line.{Line}
use Rattle.command_spec.specs.Commands.{script_limit}
use Rattle.command_spec.specs.Answers.{Outside, IfHolds, NoScript}
use Rattle.script_spec.specs.declared.Cause.{Cause}
use Rattle.command_spec.specs.declared.Stop.TheVariants.{Memory, Short, ScriptFault, ImageFault, SinkFault, TooLong}
use Rattle.command_spec.specs.declared.Stop.TheVariants.{BadLine, Refused}
use Rattle.command_line.specs.Stages.{ReadLines}
use Rattle.command_line.specs.Ended.{ScriptEnds}

-- ---- before the script is read

pub unread_memory : (mem : ℕ) (a b : Outside) → NoScript a b → ScriptEnds mem a b (Err Memory)
unread_memory mem a b none = record {
  image = record { told = λ bytes t. tt };
  unread = record { told = λ bytes t few. none };
  script = record { told = λ script l. tt };
  used = tt;
}

pub unread_fault : (mem : ℕ) (a b : Outside) → NoScript a b → ScriptEnds mem a b (Err ImageFault)
unread_fault mem a b none = record {
  image = record { told = λ bytes t. tt };
  unread = record { told = λ bytes t few. none };
  script = record { told = λ script l. tt };
  used = inl none;
}

pub unread_short : (mem : ℕ) (a b : Outside) (has needed : ℕ) → NoScript a b → b.given ≡ a.given
    → (needed ≡ mem) × (has < mem) × IfSome a.holds (λ bs. has ≡ length bs)
    → ScriptEnds mem a b (Err (Short has needed))
unread_short mem a b has needed none quiet h = record {
  image = record {
    told = λ bytes t. let size : has ≡ length bytes = rw t at h.2 in (rw (← size) (h.1), size, h.0);
  };
  unread = record { told = λ bytes t few. none };
  script = record { told = λ script l. tt };
  used = (none, quiet);
}

-- ---- after the image's size was found

-- the script that was read, where it is told
pub script_read : (left rest : Option (List ℕ)) (lines : List Line) (script : List ℕ) → ReadLines lines left rest
    → left ≡ Some script → (length script ≤ script_limit) × (script_of script ≡ Ok lines)
script_read left rest lines script r l = rw l at r.read

pub room_of : (n : ℕ) (holds : Option (List ℕ)) (bytes : List ℕ) → IfSome holds (λ bs. n ≤ length bs)
    → holds ≡ Some bytes → n ≤ length bytes
room_of n holds bytes h t = rw t at h

-- a good script
good_script : (left rest : Option (List ℕ)) (lines : List Line) → ReadLines lines left rest → (script : List ℕ)
    → left ≡ Some script → (length script ≤ script_limit) × IsOk (script_of script)
good_script left rest lines r script s =
    let read = script_read left rest lines script r s in (read.0, rw read.1 refl)

module _ (mem : ℕ) (a b : Outside) (room : IfSome a.holds (λ bs. mem ≤ length bs)) where
  -- the image is not too short
  long_enough : (bytes : List ℕ) → a.holds ≡ Some bytes → mem ≤ length bytes
  long_enough bytes t = room_of mem a.holds bytes room t

  unread : IfHolds a (λ bytes. length bytes < mem → NoScript a b)
  unread = record { told = λ bytes t few. absurd (omega (arith, long_enough bytes t, few)) }

  pub read_memory : ScriptEnds mem a b (Err Memory)
  read_memory = record {
    image = record { told = λ bytes t. tt };
    unread = unread;
    script = record { told = λ script l. tt };
    used = tt;
  }

  pub read_fault : b.given ≡ a.given → ScriptEnds mem a b (Err ScriptFault)
  read_fault quiet = record {
    image = record { told = long_enough };
    unread = unread;
    script = record { told = λ script l. tt };
    used = quiet;
  }

  pub read_long : b.given ≡ a.given → IfSome a.left (λ bs. script_limit < length bs)
      → ScriptEnds mem a b (Err TooLong)
  read_long quiet h = record {
    image = record { told = long_enough };
    unread = unread;
    script = record { told = λ script l. let long : script_limit < length script = rw l at h in long };
    used = quiet;
  }

  pub read_bad : (n : ℕ) → b.given ≡ a.given
      → IsAtEnd b.left × IfSome a.left (λ bs. (length bs ≤ script_limit) × (script_of bs ≡ Err n))
      → ScriptEnds mem a b (Err (BadLine n))
  read_bad n quiet h = record {
    image = record { told = long_enough };
    unread = unread;
    script = record {
      told = λ script l.
          let bad : (length script ≤ script_limit) × (script_of script ≡ Err n) = rw l at h.1 in bad;
    };
    used = (h.0, quiet);
  }

  module _ (lines : List Line) (r : ReadLines lines a.left b.left) where
    pub read_unput : ScriptEnds mem a b (Err SinkFault)
    read_unput = record {
      image = record { told = long_enough };
      unread = unread;
      script = record { told = λ script l. tt };
      used = tt;
    }

    pub read_unsaved : ScriptEnds mem a b (Err ImageFault)
    read_unsaved = record {
      image = record { told = λ bytes t. tt };
      unread = unread;
      script = record { told = λ script l. tt };
      used = inr r.end;
    }

    pub read_refused : (n : ℕ) (c : Cause) → ScriptEnds mem a b (Err (Refused n c))
    read_refused n c = record {
      image = record { told = long_enough };
      unread = unread;
      script = record { told = good_script a.left b.left lines r };
      used = r.end;
    }

    pub read_done : ScriptEnds mem a b (Ok tt)
    read_done = record {
      image = record { told = long_enough };
      unread = unread;
      script = record { told = good_script a.left b.left lines r };
      used = r.end;
    }
