-- Versions in a part: what taking one and going back to one leave as it was, and that the part stays well-formed.
use mathlib.Core.Path.{◌≡◌, refl, sym, ◌∙◌, ap, subst}
use mathlib.Core.Bool.{Bool, true, false, cond, not, ◌&&◌, ◌||◌}
use mathlib.Core.List.{List, [], ◌∷◌, ◌++◌, append-nil, Memᴰ}
use Prim.Native.Nat.{ℕ, ◌+◌, ◌-◌, ◌*◌, ◌≤◌, ◌<◌}
use native.Mathlib.Decide.{dec_le}
use native.Mathlib.Omega.{arith}
use lib.Dec.{eqb, leb}
use lib.ListN.{length, take, drop, length-append, length-take, length-drop, take-append-drop, drop_of_length-le}
use lib.Seq.{length-take-le, take_all, take_at, drop_at, take-take}
use borrow.Author.Tests.{le-leb, leb-true}
use Rattle.codes.specs.Code.{word}
use Rattle.codes.specs.Number.{number_at, value_or, signed_of}
use Rattle.codes.proofs.Number.{number_within, numbers_same}
use Rattle.blocks.specs.Block.{block_limit}
use Rattle.drive.specs.Faults.{buffer_codes, proper_faults}
use Rattle.std.proofs.lemmas.List.{drop-take}
use Rattle.catalogue.specs.declared.Row.{Row}
use Rattle.catalogue.specs.Table.{rows, row_at, element_size, find_of, offset_of, parameter_bytes}
use Rattle.catalogue.specs.Element.{element_place, element_of, fresh_of, every_row}
use Rattle.catalogue.proofs.Rows.{every_row_lem, element_inside}
use Rattle.versions.specs.Layout.{is_setting, version_bytes}
use Rattle.versions.specs.Fit.{versions_fit}
use Rattle.versions.specs.Keep.{taken, restored, taken_within, restored_within}
use Rattle.versions.specs.Version.{settings_of, version_of}
use Rattle.versions.proofs.Slots.{taken_alone, restored_alone}
use Rattle.versions.proofs.Taken.{taken_length}
use Rattle.versions.proofs.Given.{restored_length}
use Rattle.versions.proofs.FitLaws.{dec_eq, Inside, rows_inside, inside_rows, restored_inside, taken_fits}
use Rattle.versions.proofs.Inner.{SameElements, taken_alike}
use Rattle.versions.proofs.Laws.{settings_alike, restored_as_kept}
use Rattle.part.specs.Layout.{state_at, effective_at, length_at, response_at, versions_at, part_size, waiting_length, response_room, waiting, middle, versions, with_version, with_settings}
use Rattle.part.specs.Record.{faults_of, drive_of}
use Rattle.drive.specs.States.{state_of}
use Rattle.part.specs.WellFormed.{limits_fit, fixed_fit, waiting_fits, unused_fit, well_formed}
use Rattle.drive.specs.States.{is_state}
use Rattle.part.proofs.Rule.{form_of, form_is}
use Rattle.part.proofs.Kept.{tested_safe, limits_same, fixed_same, same_asked}
use Rattle.part.proofs.Laws.{drop_later, same_waits, same_unused, same_versions}

-- w bytes from k on stand before the versions
abbrev ahead : ℕ → ℕ → Bool
ahead w k = leb (k + w) versions_at

-- what stands before the versions does not hang on them
module _ (p q : List ℕ) (front : take versions_at q ≡ take versions_at p) where
  pub front_number : (w k : ℕ) → ahead w k ≡ true → number_at w q k ≡ number_at w p k
  front_number w k h = go (dec_le versions_at (length p))
    where
      end : k + w ≤ versions_at
      end = leb-true (k + w) versions_at h

      go : Dec (versions_at ≤ length p) → number_at w q k ≡ number_at w p k
      go (yes y) =
          let long : versions_at ≤ length q = omega (arith, length-take versions_at q, length-take versions_at p, ap length front) in
          let z : 0 + k ≡ k = omega arith in
          ap (number_at w q) (sym z)
          ∙ (sym (number_within w q 0 versions_at k end (omega arith)) ∙ (ap (λ (l : List ℕ). number_at w l k) front ∙ number_within w p 0 versions_at k end (omega arith)))
          ∙ ap (number_at w p) z
      go (no y) =
          let short : length q < versions_at = omega (arith, length-take versions_at q, length-take versions_at p, ap length front) in
          ap (λ (l : List ℕ). number_at w l k) (sym (take_all versions_at q (omega arith)) ∙ (front ∙ take_all versions_at p (omega arith)))

  pub front_element : SameElements q p
  unfolding element_of
  front_element r m i h =
      front_number (element_size r.kind) (element_place r i)
      (le-leb (element_place r i + element_size r.kind) versions_at (omega (arith, element_inside r m i h)))

  pub front_waiting_length : waiting_length q ≡ waiting_length p
  front_waiting_length = front_number 1 length_at (le-leb (length_at + 1) versions_at (omega arith))

  front_room : response_room q ≡ response_room p
  front_room = sym (drop-take response_at block_limit q) ∙ (ap (drop response_at) front ∙ drop-take response_at block_limit p)

  pub front_waiting : waiting q ≡ waiting p
  front_waiting = rw (front_waiting_length, front_room)

  pub front_middle : middle q ≡ middle p
  front_middle =
      let e : versions_at ≡ parameter_bytes + (versions_at - parameter_bytes) = omega arith in
      sym (drop-take parameter_bytes (versions_at - parameter_bytes) q)
      ∙ (ap (drop parameter_bytes) (ap (λ (n : ℕ). take n q) (sym e) ∙ (front ∙ ap (λ (n : ℕ). take n p) e))
      ∙ drop-take parameter_bytes (versions_at - parameter_bytes) p)

  pub front_settings : settings_of q ≡ settings_of p
  front_settings = settings_alike q p front_element

  -- the same version is taken of both
  pub front_taken : (v : List ℕ) → taken q v ≡ taken p v
  front_taken v = taken_alike q p front_element v

taken_size : (p v : List ℕ) → length (taken p v) ≡ length v
taken_size p v = go (dec_eq (length v) version_bytes)
  where
    go : Dec (length v ≡ version_bytes) → length (taken p v) ≡ length v
    go (yes y) = taken_length p v y ∙ sym y
    go (no y) = ap length (sym (taken_alone p v y))

module _ (p : List ℕ) where
  pub version_length : length (with_version p) ≡ length p
  unfolding taken_within
  version_length =
      omega (
        arith,
        length-append (take versions_at p) (taken p (versions p)),
        taken_size p (versions p),
        length-append (take versions_at p) (versions p),
        ap length (take-append-drop versions_at p),
      )

  pub version_front : take versions_at (with_version p) ≡ take versions_at p
  unfolding taken_within
  version_front = go (dec_le versions_at (length p))
    where
      go : Dec (versions_at ≤ length p) → take versions_at (take versions_at p ++ taken p (versions p)) ≡ take versions_at p
      go (yes y) = take_at (take versions_at p) (taken p (versions p)) versions_at (length-take-le versions_at p y)
      go (no y) =
          let none : taken p (versions p) ≡ [] = sym (taken_alone p (versions p) (λ e. omega (arith, length-drop versions_at p))) ∙ drop_of_length-le p {i = versions_at} (omega arith) in
          ap (λ (l : List ℕ). take versions_at (take versions_at p ++ l)) none
          ∙ (ap (take versions_at) (append-nil (take versions_at p)) ∙ take-take versions_at versions_at p (omega arith))

  pub version_taken : length p ≡ part_size → versions (with_version p) ≡ taken p (versions p)
  unfolding taken_within
  version_taken size = drop_at (take versions_at p) (taken p (versions p)) versions_at (length-take-le versions_at p (omega arith))

tested_ahead : every_row (tested_safe ahead) rows ≡ true
unfolding rows parameter_bytes
tested_ahead = refl

-- the test of a part's rows is that of its settings
pub settings_inside : (p : List ℕ) → every_row (limits_fit p) rows ≡ true → Inside p
unfolding limits_fit
settings_inside p e = rows_inside p e

rows_of : (p : List ℕ) → Inside p → every_row (limits_fit p) rows ≡ true
unfolding limits_fit
rows_of p h = inside_rows p h

-- what the rule of a well-formed part asks of the bytes before the versions
pub record Ahead (axis : ℕ) (p : List ℕ) : Type 0 where
  pub state : is_state (number_at 1 p state_at) ≡ true
  pub limits : every_row (limits_fit p) rows ≡ true
  pub fixed : every_row (fixed_fit p) rows ≡ true
  pub faults : proper_faults (faults_of p) ≡ true
  pub waits : waiting_fits axis p ≡ true
  pub unused : unused_fit p ≡ true

-- a part that differs in its versions alone, which fit
module _ (p q : List ℕ) (front : take versions_at q ≡ take versions_at p) where
  front_faults : faults_of q ≡ faults_of p
  unfolding offset_of find_of rows parameter_bytes
  front_faults = λ j. record {
    counter = front_number p q front 2 (offset_of 944) refl j;
    buffer = numbers_same 2 buffer_codes q p (offset_of 947) (λ i h. front_number p q front 2 (offset_of 947 + i * 2) (le-leb (offset_of 947 + i * 2 + 2) versions_at (omega arith))) j;
  }

  -- the drive record is as it was
  pub front_drive : drive_of q ≡ drive_of p
  unfolding drive_of offset_of find_of rows parameter_bytes
  front_drive = λ j. record {
    motion = record {
      state = state_of (front_number p q front 1 state_at refl j);
      word = front_number p q front 2 (offset_of 10100) refl j;
      setpoint = ap (λ (x : ℕ). record { 0 = signed_of 2 x }) (front_number p q front 2 (offset_of 10101) refl) j;
      effective = ap (λ (x : ℕ). record { 0 = signed_of 2 x }) (front_number p q front 2 effective_at refl) j;
      status = front_number p q front 2 (offset_of 10102) refl j;
      actual = ap (λ (x : ℕ). record { 0 = signed_of 2 x }) (front_number p q front 2 (offset_of 10103) refl) j;
    };
    faults = front_faults j;
  }

  front_waits : (axis : ℕ) → waiting_fits axis q ≡ waiting_fits axis p
  unfolding waiting_fits
  front_waits axis = rw (front_waiting_length p q front, front_room p q front)

  front_unused : unused_fit q ≡ unused_fit p
  unfolding unused_fit
  front_unused = rw (front_waiting_length p q front, front_room p q front)

  pub front_well_formed : length q ≡ part_size → (axis : ℕ) → Ahead axis p → versions_fit (versions q) ≡ true → well_formed axis q ≡ true
  front_well_formed size axis g fit =
      form_is axis q (record {
        size = size;
        state = ap is_state (front_number p q front 1 state_at (le-leb (state_at + 1) versions_at (omega arith))) ∙ g.state;
        limits = limits_same ahead p q (front_number p q front) tested_ahead ∙ g.limits;
        fixed = fixed_same ahead p q (front_number p q front) tested_ahead ∙ g.fixed;
        faults = ap proper_faults front_faults ∙ g.faults;
        waits = front_waits axis ∙ g.waits;
        unused = front_unused ∙ g.unused;
        kept = fit;
      })

pub version_well_formed : (p : List ℕ) (axis : ℕ) → well_formed axis p ≡ true → well_formed axis (with_version p) ≡ true
version_well_formed p axis e =
    let g = form_of axis p e in
    let ahead_of : Ahead axis p = record { state = g.state; limits = g.limits; fixed = g.fixed; faults = g.faults; waits = g.waits; unused = g.unused } in
    front_well_formed p (with_version p) (version_front p) (version_length p ∙ g.size) axis ahead_of
    (ap versions_fit (version_taken p g.size) ∙ taken_fits p (versions p) (settings_inside p g.limits) g.kept)

-- a row that is as fresh is no setting
abbrev fixed_row : Row → Bool
fixed_row r = not (eqb r.pnu 930 || eqb r.pnu 965) || not (is_setting r)

fixed_rows : every_row fixed_row rows ≡ true
unfolding rows
fixed_rows = refl

rows_alike : (ok also : Row → Bool) (rs : List Row) → ((r : Row) → Memᴰ r rs → ok r ≡ also r) → every_row ok rs ≡ every_row also rs
rows_alike ok also [] h = refl
rows_alike ok also (r ∷ rs) h =
    ap (λ (b : Bool). b && every_row ok rs) (h r (Memᴰ.head refl))
    ∙ ap (λ (b : Bool). also r && b) (rows_alike ok also rs (λ q m. h q (Memᴰ.tail m)))

module _ (n : ℕ) (p : List ℕ) where
  -- where no versions stand, nothing is restored
  by_size : (Q : List ℕ → Type 0) → Q p → (length (versions p) ≡ version_bytes → Q (with_settings n p)) → Q (with_settings n p)
  unfolding restored_within
  by_size Q same some = go (dec_eq (length (versions p)) version_bytes)
    where
      go : Dec (length (versions p) ≡ version_bytes) → Q (restored (versions p) n p)
      go (yes y) = some y
      go (no y) = subst Q (restored_alone p (versions p) y n) same

  pub settings_length : length (with_settings n p) ≡ length p
  unfolding restored_within
  settings_length = by_size (λ (q : List ℕ). length q ≡ length p) refl (λ y. restored_length (versions p) y n p)

  pub settings_beyond : drop parameter_bytes (with_settings n p) ≡ drop parameter_bytes p
  unfolding restored_within
  settings_beyond = by_size (λ (q : List ℕ). drop parameter_bytes q ≡ drop parameter_bytes p) refl (λ y. (restored_as_kept (versions p) n p y).rest)

  pub settings_others : (r : Row) → Memᴰ r rows → is_setting r ≡ false → (j : ℕ) → j < r.count → element_of r j (with_settings n p) ≡ element_of r j p
  unfolding restored_within
  settings_others r m none j h = by_size (λ (q : List ℕ). element_of r j q ≡ element_of r j p) refl (λ y. (restored_as_kept (versions p) n p y).others r m none j h)

  pub settings_back : length p ≡ part_size → settings_of (with_settings n p) ≡ version_of n (versions p)
  unfolding restored_within
  settings_back size = (restored_as_kept (versions p) n p (omega (arith, length-drop versions_at p))).settings (omega arith)

  beyond : drop length_at (with_settings n p) ≡ drop length_at p
  beyond = drop_later parameter_bytes length_at p (with_settings n p) (omega arith) settings_beyond

  settings_state : number_at 1 (with_settings n p) state_at ≡ number_at 1 p state_at
  unfolding number_at
  settings_state =
      let e : state_at ≡ parameter_bytes = omega arith in
      ap (number_at 1 (with_settings n p)) e
      ∙ (ap (λ (l : List ℕ). cond (leb 1 4) (value_or 0 ((word 1).read l)) 0) settings_beyond ∙ sym (ap (number_at 1 p) e))

  settings_fixed : every_row (fixed_fit (with_settings n p)) rows ≡ every_row (fixed_fit p) rows
  unfolding fixed_fit
  settings_fixed = rows_alike _ _ rows (λ r m.
      same_asked (eqb r.pnu 930 || eqb r.pnu 965) _ _ r.count
      (λ t i h. ap (λ (x : ℕ). eqb x (fresh_of r i)) (settings_others r m (none (eqb r.pnu 930 || eqb r.pnu 965) (is_setting r) t (every_row_lem fixed_row rows fixed_rows r m)) i h)))
    where
      none : (a b : Bool) → a ≡ true → (not a || not b) ≡ true → b ≡ false
      none true true e f = absurd (let z : ◌≡◌ {A = ℕ} 0 1 = cc in omega arith)
      none true false e f = refl
      none false b e f = absurd (let z : ◌≡◌ {A = ℕ} 0 1 = cc in omega arith)

  settings_faults : faults_of (with_settings n p) ≡ faults_of p
  unfolding element_of row_at offset_of find_of rows parameter_bytes
  settings_faults = λ j. record {
    counter = settings_others (row_at 1) (Memᴰ.tail (Memᴰ.head refl)) refl 0 (omega arith) j;
    buffer = numbers_same 2 buffer_codes (with_settings n p) p (offset_of 947) (λ i h. settings_others (row_at 2) (Memᴰ.tail (Memᴰ.tail (Memᴰ.head refl))) refl i h) j;
  }

  pub settings_well_formed : (axis : ℕ) → well_formed axis p ≡ true → well_formed axis (with_settings n p) ≡ true
  unfolding restored_within
  settings_well_formed axis e =
      let g = form_of axis p e in
      form_is axis (with_settings n p) (record {
        size = settings_length ∙ g.size;
        state = ap is_state settings_state ∙ g.state;
        limits = rows_of (with_settings n p) (restored_inside (versions p) g.kept n p (omega (arith, g.size)));
        fixed = settings_fixed ∙ g.fixed;
        faults = ap proper_faults settings_faults ∙ g.faults;
        waits = same_waits p (with_settings n p) beyond axis ∙ g.waits;
        unused = same_unused p (with_settings n p) beyond ∙ g.unused;
        kept = ap versions_fit (same_versions p (with_settings n p) beyond) ∙ g.kept;
      })
