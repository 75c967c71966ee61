-- Text written into a lent buffer from an index: where it ends, and the buffer afterwards. The bytes before and after
-- the text stay.
use Rattle.std.specs.Prelude.{ℕ, ◌+◌, ◌≤◌, ◌≡◌, List, length}
use lib.Seq.{paste}

pub record Wrote (before after : List ℕ) (at : ℕ) (text : List ℕ) (end : ℕ) : Type 0 where
  pub ends : end ≡ at + length text
  pub fits : end ≤ length before
  pub now : after ≡ paste before at text (length text)
