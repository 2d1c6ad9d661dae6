-- The lines, piece by piece.
use mathlib.Core.Path.{◌≡◌, refl, sym, ap, ◌∙◌}
use mathlib.Core.Bool.{Bool, true, false}
use mathlib.Core.List.{List, [], ◌∷◌, ◌++◌, append_assoc}
use Prim.Native.Nat.{ℕ}
use lib.ListN.{get_or, take, drop}
use borrow.Author.Tests.{eq-eqb}
use Rattle.std.specs.Prelude.{Some}
use Rattle.station.specs.declared.Cycled.{Cycled}
use Rattle.station.specs.declared.Framed.{Framed}
use Rattle.station.specs.declared.Returned.{Returned}
use Rattle.station.specs.Calls.{frame_by, to_frame}
use Rattle.journal.specs.Text.{decimal, signed, hex_word}
use Rattle.journal.specs.Line.{frame_length, reply_room, is_merged, space, state_name, cycle_line, reply_text, frame_letter, frame_line, return_line, line_of, frame_call}
use Rattle.journal.specs.declared.Acted.TheVariants.{Frame}
use Rattle.journal.specs.History.{acted_by}

pub cycle_worked : (axis : ℕ) (r : Cycled) → r.number ≡ 0
    → cycle_line axis r ++ (0x0A ∷ []) ≡ (0x63 ∷ space ∷ decimal axis) ++ ((space ∷ state_name r.state) ++ ((space ∷ hex_word r.status) ++ ((space ∷ signed r.rpm) ++ (0x0A ∷ []))))
cycle_worked axis r e = rw (eq-eqb r.number 0 e) (simp append_assoc)

pub frame_pieces : (merged : Bool) (farm : ℕ) (r : Framed) (reply : List ℕ)
    → frame_line merged farm r reply ++ (0x0A ∷ [])
    ≡ (frame_letter merged ∷ space ∷ decimal farm) ++ ((space ∷ decimal r.stored) ++ ((space ∷ reply_text (take r.length reply)) ++ (0x0A ∷ [])))
frame_pieces merged farm r reply = simp append_assoc

pub return_worked : (farm : ℕ) (r : Returned) → r.number ≡ 0
    → return_line farm r ++ (0x0A ∷ []) ≡ (0x67 ∷ space ∷ decimal farm) ++ ((space ∷ decimal r.stored) ++ ((space ∷ decimal r.version) ++ (0x0A ∷ [])))
return_worked farm r e = rw (eq-eqb r.number 0 e) (simp append_assoc)

-- of a frame by itself and of a merged one: its line, and what it did
frame_line_by : (merged : Bool) (k : ℕ) (f m : List ℕ) (a : Framed) (reply : List ℕ)
    → line_of (frame_by merged k f m) (to_frame a reply) ≡ frame_line merged k a reply ++ (0x0A ∷ [])
frame_line_by false k f m a reply = refl
frame_line_by true k f m a reply = refl

frame_acted_by : (merged : Bool) (k : ℕ) (f m : List ℕ) (a : Framed) (reply : List ℕ) → Some (Frame k a) ≡ acted_by (frame_by merged k f m) (to_frame a reply)
frame_acted_by false k f m a reply = refl
frame_acted_by true k f m a reply = refl

pub frame_line_lem : (r : List ℕ) (merged : Bool) (a : Framed) (reply : List ℕ) → merged ≡ is_merged r
    → line_of (frame_call r) (to_frame a reply) ≡ frame_line merged (get_or r 1 0) a reply ++ (0x0A ∷ [])
frame_line_lem r merged a reply which =
    frame_line_by (is_merged r) (get_or r 1 0) (take (frame_length r) (drop 3 r)) reply_room a reply
    ∙ ap (λ (b : Bool). frame_line b (get_or r 1 0) a reply ++ (0x0A ∷ [])) (sym which)

pub frame_acted : (r : List ℕ) (a : Framed) (reply : List ℕ) → Some (Frame (get_or r 1 0) a) ≡ acted_by (frame_call r) (to_frame a reply)
frame_acted r a reply = frame_acted_by (is_merged r) (get_or r 1 0) (take (frame_length r) (drop 3 r)) reply_room a reply
