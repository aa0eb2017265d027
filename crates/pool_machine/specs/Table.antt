-- What each step answers, and what it makes of the picture. A step's moment is raised to the latest
-- so far.
use Rattle.std.specs.Prelude.{ℕ, ◌+◌, ◌-◌, max, Bool, true, false, ◌||◌, not, List, [], ◌∷◌, ◌++◌}
use Rattle.std.specs.Prelude.{length, map, filter, Option, Some, None, is_some, unwrap_or}
use Rattle.std.specs.Prelude.{Result, String}
use Rattle.pool_machine.specs.declared.machine.answers.Refusal.{Refusal}
use Rattle.pool_machine.specs.declared.machine.answers.Refusal.TheVariants as refusal
use Rattle.pool_machine.specs.declared.schedule.limits.LimitSettings.{LimitSettings}
use Rattle.pool_machine.specs.Limits.{has_reached}
use Rattle.pool_machine.specs.Ids.{without}
use Rattle.pool_machine.specs.Lending.{next_to_lend, still_idle}
use Rattle.pool_machine.specs.Jobs.{SeenJob}
use Rattle.pool_machine.specs.Connections.{SeenIdleConnection, SeenReleased, idle_connection}
use Rattle.pool_machine.specs.Connections.{lent_connection, id_of_lent, pair_of, birth_in, is_expired}
use Rattle.pool_machine.specs.Connections.{is_kept}
use Rattle.pool_machine.specs.Connections.{closed_of}
use Rattle.pool_machine.specs.Refusals.{refused_if, ok_unless, ok_or_back, unless_refused}
use Rattle.pool_machine.specs.OnOrder.{SeenOnOrder, top_up_beside, miss_order, with_orders}
use Rattle.pool_machine.specs.OnOrder.{first_on_order, job_at, begun, number_refusal, after_numbering}
use Rattle.pool_machine.specs.OnOrder.{admit_refusal, admitted_one, fail_refusal, due_again}
use Rattle.pool_machine.specs.OnOrder.{failed_one, emptied}
use Rattle.pool_machine.specs.Picture.{Picture}
use Rattle.pool_machine.specs.Seen.{SeenTake, SeenReturned, Kept, Closed, SeenGone, take_with, or_text}

module _ {T : Type 0} where
  -- the raised moment becomes the latest
  abbrev pub raised_to : ℕ → Picture T → Picture T
  raised_to t p = record p { latest = max p.latest t }

  abbrev pub with_on_order : SeenOnOrder → Picture T → Picture T
  with_on_order o p = record p { on_order = o }

  -- ORDERS

  abbrev pub ordered : ℕ → Picture T → Picture T
  ordered n p = with_on_order (with_orders n p.latest p.on_order) p

  abbrev pub top_up_of : Picture T → ℕ
  top_up_of p = top_up_beside (length p.idle) p.connections p.on_order

  abbrev pub topped_up : Picture T → Picture T
  topped_up p = ordered (top_up_of p) p

  abbrev pub miss_order_of : Bool → Picture T → ℕ
  miss_order_of or_order p = miss_order or_order p.connections p.on_order

  -- MAKING

  abbrev pub first_picture : LimitSettings → ℕ → ℕ → Picture T
  first_picture limits now first_id = record {
    latest = now;
    idle = [];
    lent = [];
    on_order = first_on_order limits now first_id;
    connections = 0;
    last_error = None;
  }

  -- TAKE: the idle one that is next is lent

  abbrev pub next_of : Picture T → Option (SeenIdleConnection T)
  next_of p = next_to_lend p.on_order.limits.order p.idle

  abbrev pub lent_out : SeenIdleConnection T → Picture T → Picture T
  lent_out c p = record p {
    idle = still_idle p.on_order.limits.order p.idle;
    lent = p.lent ++ lent_connection c.id c.birth ∷ [];
  }

  abbrev pub take_orders : Option (SeenIdleConnection T) → Bool → Picture T → ℕ
  take_orders None or_order p = miss_order_of or_order p
  take_orders (Some c) or_order p = top_up_of (lent_out c p)

  abbrev pub taken : Option (SeenIdleConnection T) → Bool → Picture T → Picture T
  taken None or_order p = ordered (miss_order_of or_order p) p
  taken (Some c) or_order p = topped_up (lent_out c p)

  abbrev pub take_answer : Bool → Picture T → SeenTake T
  take_answer or_order p = take_with (next_of p) (take_orders (next_of p) or_order p)

  abbrev pub after_take : ℕ → Bool → Picture T → Picture T
  after_take t or_order p = taken (next_of p) or_order (raised_to t p)

  -- BEGIN: the least opening is in work, or the next reap moves on

  abbrev pub begin_answer : ℕ → Picture T → SeenJob
  begin_answer t p = job_at (max p.latest t) p.on_order

  abbrev pub after_begin : ℕ → Picture T → Picture T
  after_begin t p = with_on_order (begun (max p.latest t) p.on_order) (raised_to t p)

  -- NUMBER: an opening in work has an id

  abbrev pub number_answer : ℕ → Picture T → Result ℕ Refusal
  number_answer tries p = ok_unless (number_refusal tries p.on_order) p.on_order.next_id

  abbrev pub after_number : ℕ → Picture T → Picture T
  after_number tries p = with_on_order (after_numbering tries p.on_order) p

  -- ADMIT: a numbered connection joins the idle ones, and there is no last error

  abbrev pub admitted_at : ℕ → ℕ → T → Picture T → Picture T
  admitted_at now id value p = record {
    latest = now;
    idle = p.idle ++ idle_connection id now now value ∷ [];
    lent = p.lent;
    on_order = admitted_one id p.on_order;
    connections = p.connections + 1;
    last_error = None;
  }

  abbrev pub admit_answer : ℕ → T → Picture T → Result (Unit {0}) (Refusal × T)
  admit_answer id value p = ok_or_back (admit_refusal id p.on_order) value tt

  abbrev pub after_admit : ℕ → ℕ → T → Picture T → Picture T
  after_admit t id value p =
      unless_refused (admit_refusal id p.on_order) (admitted_at (max p.latest t) id value p) p

  -- FAIL: an opening in work is scheduled again

  abbrev pub fail_answer : ℕ → ℕ → Picture T → Result ℕ Refusal
  fail_answer t tries p =
      ok_unless (fail_refusal tries p.on_order) (due_again (max p.latest t) tries p.on_order)

  abbrev pub failed : {A : Type 0} → ℕ → ℕ → Option (String A) → Picture T → Picture T
  failed t tries text p = record (raised_to t p) {
    on_order = failed_one (max p.latest t) tries p.on_order;
    last_error = or_text text p.last_error;
  }

  abbrev pub after_fail : {A : Type 0} → ℕ → ℕ → Option (String A) → Picture T → Picture T
  after_fail t tries text p =
      unless_refused (fail_refusal tries p.on_order) (failed t tries text p) p

  -- RETURN: one that was lent is idle again, or gone

  abbrev pub lent_refusal : ℕ → Picture T → Option Refusal
  lent_refusal id p = refused_if (not (is_some (birth_in id p.lent))) refusal.NotLent None

  -- when a lent one was admitted
  abbrev pub lent_birth : ℕ → Picture T → ℕ
  lent_birth id p = unwrap_or (birth_in id p.lent) 0

  -- one that comes back is closed where it is broken or too old, or the core is closed
  abbrev pub is_closing : ℕ → Bool → Picture T → Bool
  is_closing birth broken p =
      broken || (has_reached p.on_order.limits.max_lifetime (p.latest - birth) || p.on_order.closed)

  abbrev pub kept_one : ℕ → ℕ → T → Picture T → Picture T
  kept_one id birth value p = record p {
    lent = without id_of_lent id p.lent;
    idle = p.idle ++ idle_connection id birth p.latest value ∷ [];
  }

  abbrev pub gone_one : ℕ → Picture T → Picture T
  gone_one id p = record p { lent = without id_of_lent id p.lent; connections = p.connections - 1 }

  abbrev pub return_by : Bool → ℕ → ℕ → T → Picture T → SeenReturned T
  return_by false id birth value p = Kept
  return_by true id birth value p = Closed value (p.latest - birth) (top_up_of (gone_one id p))

  abbrev pub returned_by : Bool → ℕ → ℕ → T → Picture T → Picture T
  returned_by false id birth value p = kept_one id birth value p
  returned_by true id birth value p = topped_up (gone_one id p)

  abbrev pub return_of : ℕ → ℕ → T → Bool → Picture T → SeenReturned T
  return_of id birth value broken p = return_by (is_closing birth broken p) id birth value p

  abbrev pub returned : ℕ → ℕ → T → Bool → Picture T → Picture T
  returned id birth value broken p = returned_by (is_closing birth broken p) id birth value p

  abbrev pub return_answer : ℕ → ℕ → T → Bool → Picture T → Result (SeenReturned T) (Refusal × T)
  return_answer t id value broken p =
      ok_or_back (lent_refusal id p) value
      (return_of id (lent_birth id p) value broken (raised_to t p))

  abbrev pub after_return : ℕ → ℕ → T → Bool → Picture T → Picture T
  after_return t id value broken p = unless_refused (lent_refusal id p)
      (returned id (lent_birth id p) value broken (raised_to t p)) p

  -- FAILED CHECK: one that was lent is gone

  abbrev pub with_text : {A : Type 0} → Option (String A) → Picture T → Picture T
  with_text text p = record p { last_error = or_text text p.last_error }

  abbrev pub gone_with : ℕ → ℕ → Picture T → SeenGone
  gone_with id birth p = record { age = p.latest - birth; ordered = top_up_of (gone_one id p) }

  abbrev pub check_answer : ℕ → ℕ → Picture T → Result SeenGone Refusal
  check_answer t id p =
      ok_unless (lent_refusal id p) (gone_with id (lent_birth id p) (raised_to t p))

  abbrev pub after_check : {A : Type 0} → ℕ → ℕ → Option (String A) → Picture T → Picture T
  after_check t id text p = unless_refused (lent_refusal id p)
      (topped_up (gone_one id (with_text text (raised_to t p)))) p

  -- REAP: the expired ones are gone

  abbrev pub swept : Picture T → Picture T
  swept p = record p {
    idle = filter (is_kept p.on_order.limits p.latest) p.idle;
    connections = p.connections - length (filter (is_expired p.on_order.limits p.latest) p.idle);
  }

  abbrev pub reap_closed : ℕ → Picture T → List (SeenReleased T)
  reap_closed t p = closed_of p.on_order.limits (max p.latest t) p.idle

  abbrev pub reap_orders : ℕ → Picture T → ℕ
  reap_orders t p = top_up_of (swept (raised_to t p))

  abbrev pub after_reap : ℕ → Picture T → Picture T
  after_reap t p = topped_up (swept (raised_to t p))

  -- TAKE ERROR, CLOSE

  abbrev pub after_take_error : Picture T → Picture T
  after_take_error p = record p { last_error = None }

  abbrev pub close_answer : Picture T → List (ℕ × T)
  close_answer p = map pair_of p.idle

  abbrev pub after_close : Picture T → Picture T
  after_close p = record p {
    idle = [];
    on_order = emptied p.on_order;
    connections = p.connections - length p.idle;
  }
