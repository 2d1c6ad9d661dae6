-- A drive record that is stored with the faults of the part: their bytes are there already, so that none of them need be written.
use mathlib.Core.Path.{◌≡◌, refl, sym, ◌∙◌, ap}
use mathlib.Core.List.{List}
use Prim.Native.Nat.{ℕ, ◌+◌, ◌*◌, ◌≤◌}
use native.Mathlib.Omega.{arith}
use native.Mathlib.Decide.{dec_le}
use lib.Dec.{lit≤}
use lib.ListN.{length, take, drop, take-append-drop}
use lib.Seq.{drop-drop}
use Rattle.codes.specs.Code.{word, write_all}
use Rattle.codes.specs.Number.{put}
use Rattle.codes.proofs.Fixed.{Bytes}
use Rattle.codes.proofs.Put.{word_length, put_fits, put_too_long}
use Rattle.codes.proofs.Number.{numbers_length, number_back, numbers_back}
use Rattle.codes.proofs.Items.{all_length}
use Rattle.drive.specs.declared.Motion.{Motion}
use Rattle.drive.specs.Faults.{buffer_codes}
use Rattle.drive.specs.Motion.{with_faults}
use Rattle.catalogue.specs.Table.{rows, find_of, offset_of, parameter_bytes}
use Rattle.part.specs.Layout.{part_size}
use Rattle.part.specs.Record.{faults_of, drive_of, put_faults, put_motion, put_drive}
use Rattle.part.proofs.Apart.{bytes_apart}
use Rattle.part.proofs.Stored.{motion_writes}

-- bytes that stand at a place already
put_same : (l : List ℕ) (at n : ℕ) (bs : List ℕ) → length bs ≡ n → take n (drop at l) ≡ bs → put l at bs ≡ l
put_same l at n bs sized e = go (dec_le (at + length bs) (length l))
  where
    go : Dec (at + length bs ≤ length l) → put l at bs ≡ l
    go (yes h) =
        put_fits l at bs h
        ∙ (rw (sized, ← drop-drop n at l, ← e, take-append-drop n (drop at l)) (take-append-drop at l))
    go (no k) = put_too_long l at bs (omega arith)

module _ (m : Motion) (p : List ℕ) (long : length p ≡ part_size) (bytes : Bytes p) where
  counter_stays : take 2 (drop (offset_of 944) (put_motion m p)) ≡ (word 2).write (faults_of p).counter
  unfolding offset_of find_of rows parameter_bytes
  counter_stays = bytes_apart 2 (offset_of 944) (motion_writes m) p refl ∙ sym (number_back 2 p bytes (lit≤ tt) (offset_of 944) (omega (arith, long)))

  codes_stay : take (buffer_codes * 2) (drop (offset_of 947) (put_motion m p)) ≡ write_all (word 2).write (faults_of p).buffer
  unfolding offset_of find_of rows parameter_bytes
  codes_stay = bytes_apart (buffer_codes * 2) (offset_of 947) (motion_writes m) p refl ∙ sym (numbers_back 2 p bytes (lit≤ tt) buffer_codes (offset_of 947) (omega (arith, long)))

  -- written back, the faults stand as they stood
  faults_stay : put_faults (faults_of p) (put_motion m p) ≡ put_motion m p
  faults_stay =
      let f = faults_of p in
      let q = put_motion m p in
      let sized = all_length (word 2).write 2 (word_length 2) f.buffer ∙ ap (λ (n : ℕ). n * 2) (numbers_length 2 buffer_codes p (offset_of 947)) in
      ap (λ (l : List ℕ). put l (offset_of 947) (write_all (word 2).write f.buffer)) (put_same q (offset_of 944) 2 ((word 2).write f.counter) (word_length 2 f.counter) counter_stays)
      ∙ put_same q (offset_of 947) (buffer_codes * 2) (write_all (word 2).write f.buffer) sized codes_stay

  -- so to store the rest is to store the record
  pub motion_stored : put_drive (with_faults m (drive_of p).faults) p ≡ put_motion m p
  unfolding put_drive drive_of
  motion_stored = faults_stay
