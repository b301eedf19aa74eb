-- Streams, and a sink over one.
use Rattle.std.specs.Prelude.{ℕ, List, Option}
use Rattle.cdc_files.specs.declared.std_sink.StdSink.{StdSink}
use Rattle.cdc_files.specs.declared.std_sink.StdStream.{StdStream}
use Rattle.cdc_files.specs.declared.std_sink.StdStream.TheVariants.{Out, Err}

-- the stream that is written to
abbrev pub stream_of : {W : Type 0} → StdSink W → W
stream_of sink = sink.out

-- how many writes failed
abbrev pub faults_of : {W : Type 0} → StdSink W → ℕ
faults_of sink = sink.faults

-- what either stream holds, where that is known
abbrev pub either_contents : {O E : Type 0} → (O → Option (List ℕ)) → (E → Option (List ℕ)) → StdStream O E → Option (List ℕ)
either_contents out err (Out stream) = out stream
either_contents out err (Err stream) = err stream
