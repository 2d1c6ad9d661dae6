-- P1 to P8, frames of these as merged calls, changes that store, and a list and a going back: all answer and end as the documents say, one
-- statement over each list.
use mathlib.Core.Path.{◌≡◌, refl, sym, ap, ◌∙◌}
use mathlib.Core.Bool.{Bool, true, false, ◌&&◌, true≢false, and-eq-true_iff}
use mathlib.Core.List.{List, [], ◌∷◌, map}
use Prim.Native.Nat.{ℕ, ◌+◌, ◌-◌, ◌*◌, ◌≤◌}
use native.Mathlib.Omega.{arith}
use lib.Dec.{eqb, lit≤}
use lib.ListN.{length}
use borrow.Author.Tests.{eqb-true}
use Rattle.codes.specs.Code.{readable}
use Rattle.codes.specs.Number.{number_at, put}
use Rattle.blocks.specs.Block.{format_size, value_size, change_block_fits, response_block_fits, values_of, values_size, block}
use Rattle.blocks.specs.Request.{address, request_blocks, request}
use Rattle.blocks.specs.Response.{response_blocks, has_error, errors_fit, response}
use Rattle.drive.specs.Cycle.{word_of, word_used, setpoint_used, acknowledges, after_ack, after_code, state_after, effective_of, near_of, fast_of, status_of, enters_s4, cycle_of}
use Rattle.catalogue.specs.Table.{rows, parameter_bytes, find_of, offset_of}
use Rattle.catalogue.specs.Element.{inside, element_of, put_element}
use Rattle.versions.specs.Layout.{columns, setting_count, last_at, last_used}
use Rattle.versions.specs.Fit.{columns_fit, versions_fit}
use Rattle.versions.specs.Keep.{taken, restored, filled, taken_within, filled_within, restored_within}
use Rattle.part.specs.Layout.{part_size, with_response}
use Rattle.part.proofs.FreshPart.{fresh_length}
use Rattle.part.specs.Record.{words_at, drive_of, put_drive}
use Rattle.drive.specs.States.{state_of}
use Rattle.part.specs.Fresh.{fresh_front, fresh_part}
use Rattle.part.specs.WellFormed.{limits_fit, fixed_fit, waiting_fits, unused_fit, well_formed}
use Rattle.access.specs.Address.{checked}
use Rattle.access.specs.Read.{read_block}
use Rattle.access.specs.Change.{change_one}
use Rattle.access.specs.Work.{worked, outcome_of}
use Rattle.station.specs.Parts.{farms, station_size, part_of, with_part, fresh_parts, window, with_window, station_refusal}
use Rattle.station.specs.Frame.{frame_refusal, frame_answer, frame_reply, frame_part}
use Rattle.station.specs.Exchange.{exchange_done}
use Rattle.station.specs.Cycle.{cycle_refusal, cycle_answer, cycle_part}
use Rattle.station.specs.Versions.{list_answer, return_refusal, return_answer, return_part}
use Rattle.station.specs.Runs.{run_answers, run_end}
use Rattle.station.specs.Isolation.{answer, after, machine}
use Rattle.station.specs.Calls.{Call, kinds}
use Rattle.station.specs.Worked.{WorkedCall, worked_calls, merged_calls, whole_calls, version_calls, ended_part, whole_part, version_part, WorkedByHand, ByHand, MergedByHand, WholeByHand, VersionsByHand}
use Rattle.station.proofs.Isolation.{ends}
use Rattle.station.proofs.Windows.{length_with, window_same, window_after}
use Rattle.station.proofs.CycleOwes.{drive_length}
use Rattle.station.proofs.Stays.{parts_length, fresh_at, made}

-- bytes are compared by a test: to compute it costs far less than to compare two lists in an equation
abbrev same : List ℕ → List ℕ → Bool
same [] [] = true
same [] (y ∷ ys) = false
same (x ∷ xs) [] = false
same (x ∷ xs) (y ∷ ys) = eqb x y && same xs ys

same_is : (xs ys : List ℕ) → same xs ys ≡ true → xs ≡ ys
same_is [] [] e = refl
same_is [] (y ∷ ys) e = absurd (true≢false (sym e))
same_is (x ∷ xs) [] e = absurd (true≢false (sym e))
same_is (x ∷ xs) (y ∷ ys) e =
    let two = (and-eq-true_iff (eqb x y) (same xs ys)).0 e in
    rw (eqb-true x y two.0, same_is xs ys two.1)

abbrev calls : List Call
calls = map (λ w. w.call) worked_calls

answers_computed : run_answers (machine kinds) calls (fresh_parts farms) ≡ map (λ w. w.answer) worked_calls
unfolding readable number_at put format_size value_size change_block_fits response_block_fits values_of values_size block address request_blocks request response_blocks has_error errors_fit response word_of word_used setpoint_used acknowledges after_ack after_code state_after effective_of near_of fast_of status_of enters_s4 cycle_of rows parameter_bytes find_of offset_of inside element_of put_element columns setting_count last_at last_used columns_fit versions_fit taken restored filled taken_within filled_within restored_within with_response state_of drive_of put_drive fresh_front fresh_part limits_fit fixed_fit waiting_fits unused_fit well_formed checked read_block change_one worked outcome_of window with_window station_refusal frame_refusal frame_answer frame_reply frame_part exchange_done cycle_refusal cycle_answer cycle_part list_answer return_refusal return_answer return_part run_answers answer after
answers_computed = refl

end_computed : same (run_end (machine kinds) calls (fresh_parts farms)) (with_part 1 ended_part (fresh_parts farms)) ≡ true
unfolding readable number_at put format_size value_size change_block_fits response_block_fits values_of values_size block address request_blocks request response_blocks has_error errors_fit response word_of word_used setpoint_used acknowledges after_ack after_code state_after effective_of near_of fast_of status_of enters_s4 cycle_of rows parameter_bytes find_of offset_of inside element_of put_element columns setting_count last_at last_used columns_fit versions_fit taken restored filled taken_within filled_within restored_within with_response state_of drive_of put_drive fresh_front fresh_part limits_fit fixed_fit waiting_fits unused_fit well_formed checked read_block change_one worked outcome_of window with_window station_refusal frame_refusal frame_answer frame_reply frame_part exchange_done cycle_refusal cycle_answer cycle_part list_answer return_refusal return_answer return_part run_end answer after
end_computed = refl

marks_computed : words_at 4 ended_part (offset_of 30001) ≡ 0 ∷ 0 ∷ 0 ∷ 0 ∷ []
unfolding rows parameter_bytes find_of offset_of element_of put_element columns last_at filled filled_within number_at put put_drive fresh_front fresh_part
marks_computed = refl

ended_length : length ended_part ≡ part_size
ended_length = drive_length _ fresh_part ∙ fresh_length

-- a part of 16 fresh ones ends inside them
ends_within : (k : ℕ) → 1 ≤ k → k ≤ farms → (k - 1) * part_size + part_size ≤ length (fresh_parts farms)
ends_within k low high = omega (arith, ends k farms part_size low high, parts_length farms)

pub worked_by_hand : WorkedByHand
worked_by_hand s h =
    let end = ap (run_end (machine kinds) calls) (made s h) ∙ same_is _ _ end_computed in
    let long : length (fresh_parts farms) ≡ station_size = parts_length farms in
    let first = ap (part_of 1) end ∙ window_same ((1 - 1) * part_size) part_size ended_part (fresh_parts farms) (ends_within 1 (lit≤ tt) (lit≤ tt)) ended_length in
    record {
      answered = ap (run_answers (machine kinds) calls) (made s h) ∙ answers_computed;
      size = ap length end ∙ (length_with ((1 - 1) * part_size) part_size ended_part (fresh_parts farms) (ends_within 1 (lit≤ tt) (lit≤ tt)) ended_length ∙ long);
      marks = ap (λ (p : List ℕ). words_at 4 p (offset_of 30001)) first ∙ marks_computed;
      first = first;
      others = λ k low high.
          ap (part_of k) end
          ∙ (window_after ((1 - 1) * part_size) part_size ended_part (fresh_parts farms) (ends_within 1 (lit≤ tt) (lit≤ tt)) ended_length
          ((k - 1) * part_size) part_size (ends 1 (k - 1) part_size (lit≤ tt) (omega arith)) (ends_within k (omega arith) high)
          ∙ fresh_at (k - 1) farms (omega arith));
    }

abbrev merged : List Call
merged = map (λ w. w.call) merged_calls

merged_computed : run_answers (machine kinds) merged (fresh_parts farms) ≡ map (λ w. w.answer) merged_calls
unfolding readable number_at put format_size value_size change_block_fits response_block_fits values_of values_size block address request_blocks request response_blocks has_error errors_fit response word_of word_used setpoint_used acknowledges after_ack after_code state_after effective_of near_of fast_of status_of enters_s4 cycle_of rows parameter_bytes find_of offset_of inside element_of put_element columns setting_count last_at last_used columns_fit versions_fit taken restored filled taken_within filled_within restored_within with_response state_of drive_of put_drive fresh_front fresh_part limits_fit fixed_fit waiting_fits unused_fit well_formed checked read_block change_one worked outcome_of window with_window station_refusal frame_refusal frame_answer frame_reply frame_part exchange_done cycle_refusal cycle_answer cycle_part list_answer return_refusal return_answer return_part run_answers answer after
merged_computed = refl

merged_end : same (part_of 1 (run_end (machine kinds) merged (fresh_parts farms))) fresh_part ≡ true
unfolding readable number_at put format_size value_size change_block_fits response_block_fits values_of values_size block address request_blocks request response_blocks has_error errors_fit response word_of word_used setpoint_used acknowledges after_ack after_code state_after effective_of near_of fast_of status_of enters_s4 cycle_of rows parameter_bytes find_of offset_of inside element_of put_element columns setting_count last_at last_used columns_fit versions_fit taken restored filled taken_within filled_within restored_within with_response state_of drive_of put_drive fresh_front fresh_part limits_fit fixed_fit waiting_fits unused_fit well_formed checked read_block change_one worked outcome_of window with_window station_refusal frame_refusal frame_answer frame_reply frame_part exchange_done cycle_refusal cycle_answer cycle_part list_answer return_refusal return_answer return_part run_end answer after
merged_end = refl

abbrev wholes : List Call
wholes = map (λ w. w.call) whole_calls

wholes_computed : run_answers (machine kinds) wholes (fresh_parts farms) ≡ map (λ w. w.answer) whole_calls
unfolding readable number_at put format_size value_size change_block_fits response_block_fits values_of values_size block address request_blocks request response_blocks has_error errors_fit response word_of word_used setpoint_used acknowledges after_ack after_code state_after effective_of near_of fast_of status_of enters_s4 cycle_of rows parameter_bytes find_of offset_of inside element_of put_element columns setting_count last_at last_used columns_fit versions_fit taken restored filled taken_within filled_within restored_within with_response state_of drive_of put_drive fresh_front fresh_part limits_fit fixed_fit waiting_fits unused_fit well_formed checked read_block change_one worked outcome_of window with_window station_refusal frame_refusal frame_answer frame_reply frame_part exchange_done cycle_refusal cycle_answer cycle_part list_answer return_refusal return_answer return_part run_answers answer after
wholes_computed = refl

wholes_end : same (part_of 1 (run_end (machine kinds) wholes (fresh_parts farms))) whole_part ≡ true
unfolding readable number_at put format_size value_size change_block_fits response_block_fits values_of values_size block address request_blocks request response_blocks has_error errors_fit response word_of word_used setpoint_used acknowledges after_ack after_code state_after effective_of near_of fast_of status_of enters_s4 cycle_of rows parameter_bytes find_of offset_of inside element_of put_element columns setting_count last_at last_used columns_fit versions_fit taken restored filled taken_within filled_within restored_within with_response state_of drive_of put_drive fresh_front fresh_part limits_fit fixed_fit waiting_fits unused_fit well_formed checked read_block change_one worked outcome_of window with_window station_refusal frame_refusal frame_answer frame_reply frame_part exchange_done cycle_refusal cycle_answer cycle_part list_answer return_refusal return_answer return_part run_end answer after
wholes_end = refl

abbrev versioned : List Call
versioned = map (λ w. w.call) version_calls

versions_computed : run_answers (machine kinds) versioned (fresh_parts farms) ≡ map (λ w. w.answer) version_calls
unfolding readable number_at put format_size value_size change_block_fits response_block_fits values_of values_size block address request_blocks request response_blocks has_error errors_fit response word_of word_used setpoint_used acknowledges after_ack after_code state_after effective_of near_of fast_of status_of enters_s4 cycle_of rows parameter_bytes find_of offset_of inside element_of put_element columns setting_count last_at last_used columns_fit versions_fit taken restored filled taken_within filled_within restored_within with_response state_of drive_of put_drive fresh_front fresh_part limits_fit fixed_fit waiting_fits unused_fit well_formed checked read_block change_one worked outcome_of window with_window station_refusal frame_refusal frame_answer frame_reply frame_part exchange_done cycle_refusal cycle_answer cycle_part list_answer return_refusal return_answer return_part run_answers answer after
versions_computed = refl

versions_end : same (part_of 1 (run_end (machine kinds) versioned (fresh_parts farms))) version_part ≡ true
unfolding readable number_at put format_size value_size change_block_fits response_block_fits values_of values_size block address request_blocks request response_blocks has_error errors_fit response word_of word_used setpoint_used acknowledges after_ack after_code state_after effective_of near_of fast_of status_of enters_s4 cycle_of rows parameter_bytes find_of offset_of inside element_of put_element columns setting_count last_at last_used columns_fit versions_fit taken restored filled taken_within filled_within restored_within with_response state_of drive_of put_drive fresh_front fresh_part limits_fit fixed_fit waiting_fits unused_fit well_formed checked read_block change_one worked outcome_of window with_window station_refusal frame_refusal frame_answer frame_reply frame_part exchange_done cycle_refusal cycle_answer cycle_part list_answer return_refusal return_answer return_part run_end answer after
versions_end = refl

-- computed on fresh parts, and so on every fresh station
by_hand :
    (them : List WorkedCall) (first : List ℕ)
    → run_answers (machine kinds) (map (λ w. w.call) them) (fresh_parts farms) ≡ map (λ w. w.answer) them
    → same (part_of 1 (run_end (machine kinds) (map (λ w. w.call) them) (fresh_parts farms))) first ≡ true
    → ByHand them first
by_hand them first answers end s h =
    let calls = map (λ w. w.call) them in
    (ap (run_answers (machine kinds) calls) (made s h) ∙ answers, ap (λ (l : List ℕ). part_of 1 (run_end (machine kinds) calls l)) (made s h) ∙ same_is _ _ end)

pub merged_by_hand : MergedByHand
merged_by_hand = by_hand merged_calls fresh_part merged_computed merged_end

pub whole_by_hand : WholeByHand
whole_by_hand = by_hand whole_calls whole_part wholes_computed wholes_end

pub versions_by_hand : VersionsByHand
versions_by_hand = by_hand version_calls version_part versions_computed versions_end
