-- Document 01, "The box and its edges", and document 02, R-3 and R-7: the kinds of call that a station has, each said in one place:
-- whose a call is, how it is tested and refused, and what it answers and leaves on its owner's part.
use Rattle.std.specs.Prelude.{Bool, true, false, List, ℕ, length}
use Rattle.codes.specs.Number.{put}
use Rattle.station.specs.declared.CycleDone.{CycleDone}
use Rattle.station.specs.declared.Framed.{Framed}
use Rattle.station.specs.declared.Listed.{Listed}
use Rattle.station.specs.declared.Returned.{Returned}
use Rattle.station.specs.declared.Sent.{Sent}
use Rattle.station.specs.Cycle.{SentFits, cycle_tests, refused_cycle, cycle_answer, cycle_part}
use Rattle.station.specs.Frame.{is_read, frame_tests, refused_reply, frame_answer, frame_reply, frame_part}
use Rattle.station.specs.Exchange.{exchange_done, exchange_tests}
use Rattle.station.specs.Versions.{refused_list, list_answer, refused_return, return_tests, return_answer, return_part}
use Rattle.station.specs.Isolation.{Kinds}

-- "Farm k's calls are its frames, the cycles of axis k and every later call made for that farm or axis": R-3's merged calls, R-7's lists
-- and goings back
pub data Call : Type 0 where
  cycle : (axis : ℕ) (i : Sent) → Call
  frame : (farm : ℕ) (f reply : List ℕ) → Call
  exchange : (farm : ℕ) (f reply : List ℕ) → Call
  list : (farm : ℕ) → Call
  go_back : (farm version : ℕ) → Call

-- a frame by itself, or in a merged call
abbrev pub frame_by : (merged : Bool) → ℕ → List ℕ → List ℕ → Call
frame_by false farm f m = frame farm f m
frame_by true farm f m = exchange farm f m

-- what a call returns: for a cycle with what it did, and for a frame or a merged call with the reply memory after it
pub data Answer : Type 0 where
  to_cycle : CycleDone → Answer
  to_frame : Framed → List ℕ → Answer
  to_list : Listed → Answer
  to_return : Returned → Answer

-- the number that an answer gives; 0 where the call was done
abbrev pub number_in : Answer → ℕ
number_in (to_cycle a) = a.told.number
number_in (to_frame a m) = a.number
number_in (to_list a) = a.number
number_in (to_return a) = a.number

-- how many elements an answer says were stored
abbrev pub stored_in : Answer → ℕ
stored_in (to_cycle a) = 0
stored_in (to_frame a m) = a.stored
stored_in (to_list a) = 0
stored_in (to_return a) = a.stored

-- what is said of a call
pub record Kind : Type 1 where
  -- whose it is,
  pub owner : ℕ
  -- its tests from number 3 on, where its owner's part is well-formed: the first number that applies, or 0,
  pub tests : List ℕ → ℕ
  -- its answer where it is refused by a number,
  pub refused : ℕ → Answer
  -- what it answers and leaves on its owner's part,
  pub answers : List ℕ → Answer
  pub leaves : List ℕ → List ℕ
  -- that its words have their widths,
  pub Fits : Type 0
  -- and whether a response that waits may be handed over by it
  pub fetches : Bool

-- a frame's reply to a refusal is the table's, and nothing is stored
abbrev pub refused_frame : List ℕ → List ℕ → ℕ → Answer
refused_frame f m n = to_frame (record { length = length (refused_reply f n); stored = 0; number = n }) (put m 0 (refused_reply f n))

abbrev pub kind_of : Call → Kind
kind_of (cycle axis i) =
    record {
      owner = axis;
      tests = λ p. cycle_tests i;
      refused = λ n. to_cycle (refused_cycle n);
      answers = λ p. to_cycle (cycle_answer axis i p);
      leaves = cycle_part axis i;
      Fits = SentFits i;
      fetches = false;
    }
kind_of (frame farm f m) =
    record {
      owner = farm;
      tests = frame_tests farm f (length m);
      refused = refused_frame f m;
      answers = λ p. to_frame (frame_answer farm f m p) (frame_reply farm f m p);
      leaves = frame_part farm f m;
      Fits = Unit {0};
      fetches = is_read f;
    }
kind_of (exchange farm f m) =
    record {
      owner = farm;
      tests = exchange_tests farm f (length m);
      refused = refused_frame f m;
      answers = λ p. to_frame (exchange_done farm f m p).told (exchange_done farm f m p).reply;
      leaves = λ p. (exchange_done farm f m p).part;
      Fits = Unit {0};
      fetches = false;
    }
kind_of (list farm) =
    record {
      owner = farm;
      tests = λ p. 0;
      refused = λ n. to_list (refused_list n);
      answers = λ p. to_list (list_answer farm p);
      leaves = λ p. p;
      Fits = Unit {0};
      fetches = false;
    }
kind_of (go_back farm n) =
    record {
      owner = farm;
      tests = return_tests n;
      refused = λ r. to_return (refused_return r);
      answers = λ p. to_return (return_answer farm n p);
      leaves = return_part farm n;
      Fits = Unit {0};
      fetches = false;
    }

abbrev pub owner : Call → ℕ
owner c = (kind_of c).owner

abbrev pub kinds : Kinds
kinds =
    record {
      Call = Call;
      Answer = Answer;
      owner = owner;
      refused = λ c. (kind_of c).refused;
      answers = λ c. (kind_of c).answers;
      leaves = λ c. (kind_of c).leaves;
    }
