-- Document 02, R-7, "Farms can list the kept numbers, oldest first, and go back to one": a list and a going back of farm k on the part
-- of its axis.
use Rattle.std.specs.Prelude.{cond, not, List, ℕ, ◌+◌, eqb}
use Rattle.versions.specs.Layout.{setting_count, last_used, kept_count, oldest}
use Rattle.versions.specs.Version.{is_kept}
use Rattle.part.specs.Layout.{versions, with_version, with_settings, used_up}
use Rattle.part.specs.WellFormed.{well_formed}
use Rattle.station.specs.declared.Listed.{Listed}
use Rattle.station.specs.declared.Returned.{Returned}

-- "Refused .. lists and goings back answer their number and zeros."
abbrev pub refused_list : ℕ → Listed
refused_list n = record { oldest = 0; kept = 0; number = n }

abbrev pub refused_return : ℕ → Returned
refused_return n = record { stored = 0; version = 0; number = n }

-- the kept numbers are `kept` ones from the oldest on
unfoldable pub list_answer : ℕ → List ℕ → Listed
list_answer k p =
    cond (not (well_formed k p)) (refused_list 2)
    (record { oldest = oldest (versions p); kept = kept_count (versions p); number = 0 })

-- where the part p is well-formed: "14, version not kept; 15, numbers used up and an element would be stored", as always by a going back
abbrev pub return_tests : ℕ → List ℕ → ℕ
return_tests n p =
    cond (not (is_kept n (versions p))) 14
    (cond (used_up p) 15
    0)

unfoldable pub return_refusal : ℕ → ℕ → List ℕ → ℕ
return_refusal k n p = cond (not (well_formed k p)) 2 (return_tests n p)

-- "go back to one, which stores all its elements (18 today) as a new version"
unfoldable pub return_answer : ℕ → ℕ → List ℕ → Returned
return_answer k n p =
    let refusal = return_refusal k n p in
    cond (eqb refusal 0) (record { stored = setting_count; version = last_used (versions p) + 1; number = 0 }) (refused_return refusal)

unfoldable pub return_part : ℕ → ℕ → List ℕ → List ℕ
return_part k n p = cond (eqb (return_refusal k n p) 0) (with_version (with_settings n p)) p
