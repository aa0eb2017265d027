-- What the calls of `caller` leave of a core. A moment is in nanoseconds.
use Rattle.std.specs.Prelude.{ℕ, None}
use Rattle.pool_machine.specs.Jobs.{SeenJob, Open, Reap, Wait, Nothing, Closed}
use Rattle.pool_machine.specs.Refusals.{unless_refused}
use Rattle.pool_machine.specs.OnOrder.{number_refusal}
use Rattle.pool_machine.specs.Picture.{Picture}
use Rattle.pool_machine.specs.Table.{begin_answer, after_begin, after_number, after_admit, after_check}

module _ {T : Type 0} where
  -- an opening in work has the next id, and its value comes in
  abbrev pub handed_in : ℕ → ℕ → T → Picture T → Picture T
  handed_in tries t value p =
      unless_refused (number_refusal tries p.on_order) (after_admit t p.on_order.next_id value (after_number tries p)) p

  -- a value comes in where the task is to open, and nowhere else
  abbrev pub opened_by : SeenJob → ℕ → T → Picture T → Picture T
  opened_by (Open tries) t value p = handed_in tries t value p
  opened_by Reap t value p = p
  opened_by (Wait due) t value p = p
  opened_by Nothing t value p = p
  opened_by Closed t value p = p

  abbrev pub after_open : ℕ → T → Picture T → Picture T
  after_open t value p = opened_by (begin_answer t p) t value (after_begin t p)

  -- a failed check, without a text
  abbrev pub after_discard : ℕ → ℕ → Picture T → Picture T
  after_discard t id p = after_check {A = Unit {0}} t id None p
