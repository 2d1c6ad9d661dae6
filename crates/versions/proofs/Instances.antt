-- The laws of versions at the ends of their bounds: nothing weaker than they are would do.
use mathlib.Core.Path.{◌≡◌}
use mathlib.Core.Bool.{true}
use mathlib.Core.List.{List}
use Prim.Native.Nat.{ℕ, ◌+◌, ◌-◌, ◌%◌}
use native.Mathlib.Omega.{arith}
use lib.Dec.{lit≤}
use lib.ListN.{length, get_or}
use Rattle.versions.specs.Layout.{version_bytes, last_used, oldest}
use Rattle.versions.specs.Keep.{taken}
use Rattle.versions.specs.Version.{settings_of, version_of, kept_numbers, is_kept}
use Rattle.versions.proofs.Laws.{numbers_rise, taken_as_is}

-- NumbersRise: after version 20 the versions 5 to 20 are kept, 16 of them, in order, each in a slot of its own; 4 and 21 are not
module _ (v : List ℕ) (last : last_used v ≡ 20) where
  sixteen : length (kept_numbers v) ≡ 16
  sixteen = omega (arith, (numbers_rise v).count.0)

  first : get_or (kept_numbers v) 0 0 ≡ 5
  first = omega (arith, (numbers_rise v).each 0 (omega arith))

  latest : get_or (kept_numbers v) 15 0 ≡ 20
  latest = omega (arith, (numbers_rise v).each 15 (omega arith))

  ends_there : oldest v + 15 ≡ 20
  ends_there = omega (arith, (numbers_rise v).last (omega arith))

  kept_5 : is_kept 5 v ≡ true
  kept_5 = ((numbers_rise v).sixteen 5).1 (lit≤ tt, omega arith, omega arith)

  not_4 : is_kept 4 v ≡ true → ⊥
  not_4 e = omega (arith, (((numbers_rise v).sixteen 4).0 e).2)

  not_21 : is_kept 21 v ≡ true → ⊥
  not_21 e = omega (arith, (((numbers_rise v).sixteen 21).0 e).1)

  own_slots : (n m : ℕ) → is_kept n v ≡ true → is_kept m v ≡ true → (n - 1) % 16 ≡ (m - 1) % 16 → n ≡ m
  own_slots = (numbers_rise v).apart

-- TakenAsIs: the last number that there is
module _ (p v : List ℕ) (size : length v ≡ version_bytes) (last : last_used v ≡ 65534) where
  then_last : last_used (taken p v) ≡ 65535
  then_last = omega (arith, (taken_as_is p v size).next (omega arith))

  its_settings : version_of 65535 (taken p v) ≡ settings_of p
  its_settings = rw last at (taken_as_is p v size).version

  one_before : version_of 65534 (taken p v) ≡ version_of 65534 v
  one_before =
      let next = (taken_as_is p v size).next (omega arith) in
      (taken_as_is p v size).others (omega arith) 65534 (((numbers_rise (taken p v)).sixteen 65534).1 (lit≤ tt, omega arith, omega arith)) (omega arith)
