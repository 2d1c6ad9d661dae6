-- What callers may cite of a farm's versions in place of their text: from document 02, R-7. Each is a statement here and a proof in proofs/.
use Rattle.std.specs.Prelude.{◌≡◌, true, false, ◌↔◌, ℕ, ◌+◌, ◌-◌, ◌≤◌, ◌<◌, length, get_or, drop}
use mathlib.Core.List.{List, Memᴰ}
use Rattle.catalogue.specs.declared.Row.{Row}
use Rattle.catalogue.specs.Table.{rows, parameter_bytes}
use Rattle.catalogue.specs.Element.{element_of}
use Rattle.versions.specs.Layout.{is_setting, setting_count, version_bytes, last_used, kept_count, oldest, slot_of}
use Rattle.versions.specs.Keep.{taken, restored}
use Rattle.versions.specs.Version.{settings_of, version_of, kept_numbers, is_kept}

-- "stores all its elements (18 today)"
abbrev pub Eighteen : Type 0
Eighteen = setting_count ≡ 18

-- "their numbers rise by 1 to the last used", whatever the bytes are: at most 16 numbers are kept, each is one more than the one before
-- it, the last is the last used; no other is kept, and each has a slot of its own; the last 16 of those used are all kept
pub record Rising (v : List ℕ) : Type 0 where
  pub count : (length (kept_numbers v) ≡ kept_count v) × (kept_count v ≤ 16)
  pub each : (i : ℕ) → i < kept_count v → get_or (kept_numbers v) i 0 ≡ oldest v + i
  pub last : 1 ≤ last_used v → oldest v + (kept_count v - 1) ≡ last_used v
  pub exactly : (n : ℕ) → (is_kept n v ≡ true) ↔ ((oldest v ≤ n) × (n < oldest v + kept_count v))
  pub sixteen : (n : ℕ) → (is_kept n v ≡ true) ↔ ((1 ≤ n) × (n ≤ last_used v) × (last_used v < n + 16))
  pub apart : (n m : ℕ) → is_kept n v ≡ true → is_kept m v ≡ true → slot_of n ≡ slot_of m → n ≡ m

abbrev pub NumbersRise : Type 0
NumbersRise = (v : List ℕ) → Rising v

-- a version is what the settings of the part were when it was taken, under the next number; those that are still kept are as they were
pub record Taken (p v : List ℕ) : Type 0 where
  pub next : last_used v < 65535 → last_used (taken p v) ≡ last_used v + 1
  pub version : version_of (last_used v + 1) (taken p v) ≡ settings_of p
  pub others : last_used v < 65535 → (n : ℕ) → is_kept n (taken p v) ≡ true → n ≤ last_used v → version_of n (taken p v) ≡ version_of n v

abbrev pub TakenAsIs : Type 0
TakenAsIs = (p v : List ℕ) → length v ≡ version_bytes → Taken p v

-- going back makes the settings those of the version, element by element, and leaves all else of the part
pub record Restored (v : List ℕ) (n : ℕ) (p : List ℕ) : Type 0 where
  pub settings : parameter_bytes ≤ length p → settings_of (restored v n p) ≡ version_of n v
  pub others :
      (r : Row) → Memᴰ r rows → is_setting r ≡ false → (j : ℕ) → j < r.count → element_of r j (restored v n p) ≡ element_of r j p
  pub rest : drop parameter_bytes (restored v n p) ≡ drop parameter_bytes p

abbrev pub RestoredAsKept : Type 0
RestoredAsKept = (v : List ℕ) (n : ℕ) (p : List ℕ) → length v ≡ version_bytes → Restored v n p
