-- The letter and the number, and the line's end.
use mathlib.Core.Path.{sym, ap}
use mathlib.Core.List.{[], ◌∷◌, ◌++◌}
use Prim.Native.Nat.{ℕ}
use Rattle.journal.specs.Line.{refused_line}
use Rattle.journal.proofs.Pieces.{and_then, said}
use Rattle.journal.proofs.line.put_refused.Goals as goal

pub returns : goal.returns
returns c = said (and_then c.put_head.ensures c.put_byte.ensures) (ap (λ (n : ℕ). refused_line n ++ (0x0A ∷ [])) (sym c.from.ensures))
