-- What it is for a core to follow a history: it answers as the definitions say, and shows the history's picture.
use Rattle.std.specs.Prelude.{◌≡◌, ℕ, ◌≤◌, false, count_by}
use Rattle.pool_machine.specs.declared.step.Step.{Step}
use Rattle.pool_machine.specs.Picture.{Picture, IsSound}
use Rattle.pool_machine.specs.Seen.{SeenAnswer}
use Rattle.r2d2_core.specs.History.{History, is_closed}
use Rattle.r2d2_core.specs.Deeds.{is_gone, deeds_of, admitted_count}
use Rattle.r2d2_core.specs.Pending.{ordered_of, begun_of, ended_of, next_id_of, is_admitted}
use Rattle.r2d2_core.specs.Answers.{answer_of, after, picture_of}

module _ {T : Type 0} where
  -- how many are gone
  abbrev pub gone_count : History T → ℕ
  gone_count h = count_by is_gone (deeds_of h)

  -- what keeps with each accepted step
  pub record IsKept (h : History T) : Type 0 where
    pub sound : IsSound (picture_of h)
    pub gone_were_admitted : gone_count h ≤ admitted_count h
    pub admitted_were_ordered : is_closed h ≡ false → admitted_count h ≤ ordered_of h
    pub ended_were_begun : (k : ℕ) → ended_of h k ≤ begun_of h k
    pub few_tries : (k : ℕ) → 100 ≤ k → begun_of h k ≡ 0
    pub none_admitted_ahead : (i : ℕ) → next_id_of h ≤ i → is_admitted h i ≡ false

  -- after h, the step has that reply and leaves that picture
  pub record Follows (h : History T) (s : Step T) (reply : SeenAnswer T) (new : Picture T) : Type 0 where
    pub answer_is : reply ≡ answer_of h s
    pub picture_is : new ≡ picture_of (after h s)
    pub kept : IsKept (after h s)
