-- One text that was put, and an image that was written
use Rattle.std.proofs.Common.{◌≡◌, ℕ, List, [], ◌∷◌, Option, Ok, Err, refl, append-nil, inr}
use Rattle.std.proofs.KnownBytes.{Appends-nil}
use Rattle.std.specs.Io.KnownBytes.{Appends}
use Rattle.outside.specs.Outside.{AppendsFront, Writes, WritesFront}
use Rattle.command_spec.specs.Commands.{shows, leaves}
use Rattle.command_spec.specs.declared.Stop.TheVariants.{Memory, SinkFault, ImageFault}
use Rattle.command_line.specs.Ended.{EndedAt}

pub put_all : (text bytes : List ℕ) (given given' holds : Option (List ℕ)) → bytes ≡ text → Appends given given' bytes
    → EndedAt (shows (text ∷ [])) given given' holds holds (Ok tt)
put_all text bytes given given' holds e h = (refl, rw (append-nil text, ← e) h, refl)

pub put_none : (text : List ℕ) (given holds : Option (List ℕ))
    → EndedAt (shows (text ∷ [])) given given holds holds (Err Memory)
put_none text given holds = (record { count = 0; bytes = Appends-nil given }, refl)

pub put_front : (text bytes : List ℕ) (given given' holds : Option (List ℕ)) → bytes ≡ text
    → AppendsFront given given' bytes → EndedAt (shows (text ∷ [])) given given' holds holds (Err SinkFault)
put_front text bytes given given' holds e h = (record { count = 1; bytes = rw (append-nil text, ← e) h }, refl)

pub wrote_all : (bytes : List ℕ) (given holds holds' : Option (List ℕ)) → Writes holds holds' 0 bytes
    → EndedAt (leaves bytes) given given holds holds' (Ok tt)
wrote_all bytes given holds holds' h = (refl, Appends-nil given, h)

pub wrote_front : (bytes : List ℕ) (given holds holds' : Option (List ℕ)) → WritesFront holds holds' 0 bytes
    → EndedAt (leaves bytes) given given holds holds' (Err ImageFault)
wrote_front bytes given holds holds' h = inr (refl, Appends-nil given, h)
