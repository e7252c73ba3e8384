-- At each boot of a script idle zones within bounds read the last bytes that were written, and cut
-- zones differ in reported parts alone. By `SoundStates`.
use Rattle.machine_laws.proofs.LastWritten.{state_reads, sound_state_reads_last_written}
use Rattle.script_laws.proofs.SoundStates.{states_sound}
use Rattle.script_laws.proofs.scripts_read_last_written.Goals as goal

pub returns : goal.returns
returns c = λ layout mem image lines lies size bytes fit. (
  λ k off is. state_reads layout mem off lies
      (rw is at (states_sound layout mem image lines lies size bytes fit k)),
  λ k off is. sound_state_reads_last_written layout mem off lies
      (rw is at (states_sound layout mem image lines lies size bytes fit k)),
)
