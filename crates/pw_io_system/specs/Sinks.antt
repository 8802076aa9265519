-- What a sink keeps back.
use Rattle.std.specs.Prelude.{ℕ, List}
use Rattle.std.specs.Io.Buffered.{writer_buffer}
use Rattle.std.specs.declared.io.buffered.BufWriter.{BufWriter}
use Rattle.pw_io_system.specs.declared.streams.StdSink.{StdSink}

-- the bytes that it took and its writer has still to write out
abbrev pub kept_back : {W A : Type 0} → StdSink (BufWriter W A) → List ℕ
kept_back sink = writer_buffer sink.writer
