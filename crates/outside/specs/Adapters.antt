-- What the adapters stand over, and how often they have failed.
use Rattle.std.specs.Prelude.{ℕ, ◌+◌, List, string_bytes}
use Rattle.outside.specs.declared.adapters.ReaderSource.{ReaderSource}
use Rattle.outside.specs.declared.adapters.WriterSink.{WriterSink}
use Rattle.outside.specs.declared.adapters.FileLoad.{FileLoad}
use Rattle.outside.specs.declared.adapters.FileStore.{FileStore}

abbrev pub source_reader : {R : Type 0} → ReaderSource R → R
source_reader s = s.reader

abbrev pub reader_faults : {R : Type 0} → ReaderSource R → ℕ
reader_faults s = s.faults

abbrev pub sink_writer : {W : Type 0} → WriterSink W → W
sink_writer s = s.writer

abbrev pub writer_faults : {W : Type 0} → WriterSink W → ℕ
writer_faults s = s.faults

-- F and D are the runtime's opened files and folders
abbrev pub load_path : {R F D : Type 0} → FileLoad R F D → List ℕ
load_path s = string_bytes s.path

abbrev pub load_faults : {R F D : Type 0} → FileLoad R F D → ℕ
load_faults s = s.faults

abbrev pub file_path : {R F D : Type 0} → FileStore R F D → List ℕ
file_path s = load_path s.file

abbrev pub file_faults : {R F D : Type 0} → FileStore R F D → ℕ
file_faults s = load_faults s.file + s.write_faults

abbrev pub file_writes : {R F D : Type 0} → FileStore R F D → ℕ
file_writes s = s.writes
