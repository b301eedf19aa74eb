-- What a reader keeps of its reading.
use Rattle.std.proofs.Common.{ℕ, List, sym, Option, None, Some}
use Rattle.cdc_base.specs.declared.place.Place.{Place}
use Rattle.cdc_model.specs.declared.fault.NodeFault.{NodeFault}
use Rattle.cdc_model.specs.Records.{LogEntry}
use Rattle.cdc_model.specs.Soundness.{AllSound, sound_entries}
use Rattle.cdc_model.specs.Restart.{RestartPoint, start_at}
use Rattle.cdc_model.proofs.Fronts.{front_same}
use Rattle.cdc_reader.specs.declared.log.LogReader.{LogReader}
use Rattle.cdc_reader.specs.declared.step.NodeEnd.{NodeEnd}
use Rattle.cdc_reader.specs.declared.step.NodeEnd.TheVariants.{Open, Whole, Read as ReadFailed, Memory as NoMemory, Fault as Faulty}
use Rattle.cdc_reader.specs.LogFront.{IsReadAs, AreFirstSound}
use Rattle.cdc_reader.specs.Standing.{ReadingStands}
use Rattle.cdc_reader.proofs.Steps.{first_sound}
use Rattle.cdc_content.specs.Laws.{IsToEnd, ReadingsStandSo}

-- what is read as a log's sound entries are the first of them
first_of_all : (point : RestartPoint) (files : List (List ℕ)) (taken : List LogEntry) (fault : Option (Place × NodeFault)) → IsReadAs point files taken fault → AreFirstSound point files taken
first_of_all point files taken fault reads entries ended are = front_same taken (sound_entries (start_at point) entries) (sym (reads entries ended are).0)

first_by : (end : NodeEnd) (point : RestartPoint) (files : List (List ℕ)) (log : LogReader) (taken : List LogEntry) → AllSound (start_at point) taken
    → ReadingStands end point files log taken → AreFirstSound point files taken
first_by Open point files log taken sound stands = first_sound point files log taken sound stands.read
first_by Whole point files log taken sound stands = first_of_all point files taken None stands
first_by ReadFailed point files log taken sound stands = stands.first
first_by NoMemory point files log taken sound stands = stands
first_by (Faulty place fault) point files log taken sound stands = first_of_all point files taken (Some (place, fault)) stands

-- a log that was read to its end
abbrev IsReadWith : RestartPoint → List (List ℕ) → List LogEntry → Type 0
IsReadWith point files taken = (fault : Option (Place × NodeFault)) × IsReadAs point files taken fault

read_by : (end : NodeEnd) (point : RestartPoint) (files : List (List ℕ)) (log : LogReader) (taken : List LogEntry) → IsToEnd end
    → ReadingStands end point files log taken → IsReadWith point files taken
read_by Open point files log taken to stands = absurd to
read_by Whole point files log taken to stands = (None, stands)
read_by ReadFailed point files log taken to stands = absurd to
read_by NoMemory point files log taken to stands = absurd to
read_by (Faulty place fault) point files log taken to stands = (Some (place, fault), stands)

pub readings_stand_so : ReadingsStandSo
readings_stand_so tells files reader reading taken feed told reads = record {
  read = record {
    sound = reads.feeding.sound;
    first = first_by reader.end reading.from files reader.log taken reads.feeding.sound (reads.stands told);
    feeds = reads.feeding.feeds;
  };
  all = λ to given.
      let read = read_by reader.end reading.from files reader.log taken to (reads.stands told) in
      record { fault = read.0; read = read.1; bound = given.bound };
}
