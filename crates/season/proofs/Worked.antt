-- A cycle counts in one state, and a merged call as its write; and the worked calls of 01 count as 02 says.
use mathlib.Core.Path.{◌≡◌, refl, sym, ap, ◌∙◌}
use mathlib.Core.List.{List, [], ◌∷◌, map}
use Prim.Native.Nat.{ℕ, zero, suc, ◌*◌}
use native.Mathlib.Omega.{arith}
use lib.Dec.{eqb, eqb-suc-zero}
use lib.ListN.{length, take, replicate}
use borrow.Table.Steps.{cases}
use Rattle.drive.specs.declared.states.State.{State}
use Rattle.drive.specs.declared.states.State.TheVariants.{S1, S2, S3, S4, S51, S52}
use Rattle.drive.specs.declared.Output.{Output}
use Rattle.drive.specs.Cycle.{cycle_of}
use Rattle.part.specs.Record.{drive_of}
use Rattle.station.specs.Parts.{farms, station_refusal, part_of, window, with_window, fresh_station}
use Rattle.station.specs.declared.Sent.{Sent}
use Rattle.station.specs.Cycle.{input_of, cycle_refusal, cycled, cycle_answer}
use Rattle.station.specs.Frame.{frame_answer}
use Rattle.station.specs.Exchange.{FrameDone}
use Rattle.station.specs.Runs.{run_answers}
use Rattle.station.specs.Isolation.{answer, answer_by, machine}
use Rattle.station.specs.Calls.{Call, cycle, frame, exchange, Answer, to_cycle, to_frame, number_in, kinds}
use Rattle.station.specs.Worked.{worked_calls}
use Rattle.station.proofs.Isolation.{took_answer, fine}
use Rattle.station.proofs.ExchangeOwes.{done_in_turn}
use Rattle.station.proofs.Refusals.{was_done}
use Rattle.station.proofs.Merged.{write_alone}
use Rattle.station.proofs.Worked.{worked_by_hand}
use Rattle.journal.specs.Text.{decimal}
use Rattle.journal.specs.History.{Event, history}
use Rattle.season.specs.Season.{one, answer_counts, added, tally, count}
use Rattle.season.specs.Laws.{sum, OneState, CountsAlike, WorkedSeason, WorkedCounts, WorkedLines}
use Rattle.season.specs.Report.{farm_line}

-- a state is one of six
six : (o : Output) (s : State) → o.state ≡ s → sum (take 6 (answer_counts (to_cycle (cycled o)))) ≡ 1
six o S1 e = rw e
six o S2 e = rw e
six o S3 e = rw e
six o S4 e = rw e
six o S51 e = rw e
six o S52 e = rw e

abbrev Once : Answer → Type 0
Once a = sum (take 6 (answer_counts a)) ≡ one (eqb (number_in a) 0)

on_part : (k : ℕ) (i : Sent) (p : List ℕ) → Once (to_cycle (cycle_answer k i p))
unfolding cycle_answer
on_part k i p =
    let o = (cycle_of (drive_of p) (input_of i p)).output in
    cases (eqb (cycle_refusal k i p) 0) (λ e. rw e (six o o.state refl)) (λ e. rw (e, e))

pub one_state : OneState
unfolding answer
one_state axis i s = go (station_refusal axis (length s))
  where
    go : (n : ℕ) → Once (answer_by kinds n (cycle axis i) s)
    go zero = on_part axis i (part_of axis s)
    go (suc n) = rw (eqb-suc-zero n)

-- a merged call stores what its write does, and is denied where that is
pub counts_alike : CountsAlike
unfolding frame_answer
counts_alike k f m s isnt = go (number_in (answer kinds (frame k f m) s)) refl
  where
    go : (n : ℕ) → number_in (answer kinds (frame k f m) s) ≡ n → answer_counts (answer kinds (exchange k f m) s) ≡ answer_counts (answer kinds (frame k f m) s)
    go (suc n) e = ap answer_counts (write_alone k f m s isnt (λ z. let other = sym z ∙ e in omega arith)).0
    go zero e =
        let d = was_done (frame k f m) s e in
        let p = part_of k s in
        ap answer_counts (took_answer kinds (exchange k f m) s (fine d.0) ∙ ap (λ (x : FrameDone). to_frame x.told x.reply) (done_in_turn k f m p isnt d.1))
        ∙ (ap (λ (n : ℕ). answer_counts (to_frame (record { length = 0; stored = (frame_answer k f m p).stored; number = n }) [])) (sym d.1)
        ∙ sym (ap answer_counts (took_answer kinds (frame k f m) s (fine d.0))))

-- a history is the calls with the answers of their run
paired : List Call → List Answer → List Event
paired [] answers = []
paired (c ∷ cs) [] = []
paired (c ∷ cs) (a ∷ answers) = record { call = c; answer = a } ∷ paired cs answers

as_run : (cs : List Call) (s : List ℕ) → history cs s ≡ paired cs (run_answers (machine kinds) cs s)
unfolding history run_answers paired
as_run [] s = refl
as_run (c ∷ cs) s = rw (as_run cs _)

pub worked_season : WorkedSeason
unfolding count tally added window with_window paired
worked_season s size =
    let calls = map (λ w. w.call) worked_calls in
    ap (λ (ds : List Event). count ds (replicate (farms * 10) 0)) (as_run calls (fresh_station s) ∙ ap (paired calls) (worked_by_hand s size).answered)

pub worked_counts : WorkedCounts
worked_counts = refl

pub worked_lines : WorkedLines
unfolding farm_line window decimal
worked_lines = record { farm = refl; over = refl }
