-- The drive record of an axis in its part: document 01's state, PNU 944, 947 and 10100 to 10103, and the effective setpoint.
use Rattle.std.specs.Prelude.{List, [], ◌∷◌, ℕ}
use Rattle.codes.specs.Code.{word, write_all}
use Rattle.codes.specs.Number.{number_at, numbers_at, put, signed_of, bits_of}
use Rattle.drive.specs.declared.Drive.{Drive}
use Rattle.drive.specs.declared.Motion.{Motion}
use Rattle.drive.specs.declared.faults.Faults.{Faults}
use Rattle.drive.specs.declared.speed.N2.{N2}
use Rattle.drive.specs.Faults.{buffer_codes}
use Rattle.drive.specs.States.{number_of, state_of}
use Rattle.drive.specs.Motion.{motion_of}
use Rattle.catalogue.specs.Table.{offset_of}
use Rattle.part.specs.Layout.{state_at, effective_at}

-- n words from a place on
abbrev pub words_at : ℕ → List ℕ → ℕ → List ℕ
words_at n p at = numbers_at 2 n p at

abbrev pub speed_at : List ℕ → ℕ → N2
speed_at p at = record { 0 = signed_of 2 (number_at 2 p at) }

abbrev pub faults_of : List ℕ → Faults
faults_of p = record { counter = number_at 2 p (offset_of 944); buffer = words_at buffer_codes p (offset_of 947) }

unfoldable pub drive_of : List ℕ → Drive
drive_of p =
    record {
      motion = record {
        state = state_of (number_at 1 p state_at);
        word = number_at 2 p (offset_of 10100);
        setpoint = speed_at p (offset_of 10101);
        effective = speed_at p effective_at;
        status = number_at 2 p (offset_of 10102);
        actual = speed_at p (offset_of 10103);
      };
      faults = faults_of p;
    }

-- a word, a speed and the faults put in a part
abbrev pub put_word : ℕ → ℕ → List ℕ → List ℕ
put_word at x p = put p at ((word 2).write x)

abbrev pub put_speed : ℕ → N2 → List ℕ → List ℕ
put_speed at v p = put_word at (bits_of 2 v.0) p

abbrev pub put_faults : Faults → List ℕ → List ℕ
put_faults f p = put (put_word (offset_of 944) f.counter p) (offset_of 947) (write_all (word 2).write f.buffer)

-- the part with another drive record, but for its faults
abbrev pub put_motion : Motion → List ℕ → List ℕ
put_motion m p =
    put_speed (offset_of 10103) m.actual
    (put_word (offset_of 10102) m.status
    (put_speed effective_at m.effective
    (put_speed (offset_of 10101) m.setpoint
    (put_word (offset_of 10100) m.word
    (put p state_at (number_of m.state ∷ []))))))

-- the part with another drive record
unfoldable pub put_drive : Drive → List ℕ → List ℕ
put_drive d p = put_faults d.faults (put_motion (motion_of d) p)
