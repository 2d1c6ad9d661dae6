-- Text written in memory that is lent, from its start on.
use Rattle.std.specs.Prelude.{◌≡◌, List, ◌++◌, ℕ, ◌+◌, ◌≤◌, ◌<◌, length, take, drop}
use Rattle.journal.specs.declared.writing.Text.{Text}

-- what is written, and what stands in the rest of the memory
abbrev pub so_far : Text → List ℕ
so_far t = take t.written t.memory.now

abbrev pub rest : Text → List ℕ
rest t = drop t.written t.memory.now

-- there is room for n bytes more
abbrev pub room : ℕ → Text → Type 0
room n t = t.written + n ≤ length t.memory.now

-- u is the text t and, after it, bs, which are n bytes at most; no other byte of the memory changes
pub record Wrote (n : ℕ) (bs : List ℕ) (t u : Text) : Type 0 where
  pub same_memory : u.memory.ghost_name ≡ t.memory.ghost_name
  pub text : so_far u ≡ so_far t ++ bs
  pub left : rest u ≡ drop (length bs) (rest t)
  pub longer : u.written ≡ t.written + length bs
  pub size : length u.memory.now ≡ length t.memory.now
  pub limit : length bs ≤ n

-- u is so where they fit; else it is the text t
pub record WroteIfFits (bs : List ℕ) (t u : Text) : Type 0 where
  pub fits : room (length bs) t → Wrote (length bs) bs t u
  pub stays : length t.memory.now < t.written + length bs → u ≡ t
