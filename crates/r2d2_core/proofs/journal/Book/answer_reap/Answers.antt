use Rattle.std.proofs.Common.{length, sym, ◌∙◌, ap}
use Rattle.std.proofs.lemmas.List.{length-map}
use Rattle.std.specs.Duration.{as_nanos}
use Rattle.pool_machine.specs.Seen.{Reaped, seen_released}
use Rattle.pool_machine.specs.Table.{reap_closed}
use Rattle.r2d2_core.specs.Noted.{noted_reap}
use Rattle.r2d2_core.proofs.journal.Book.answer_reap.Goals as goal

pub returns : goal.returns
returns g c =
    let now = as_nanos c.args.now in
    let old = c.args.self.now in
    let reaped = c.reap-ordered.ensures.of_core in
    let many = sym (length-map c.reap-ordered.new.out.items seen_released) ∙ ap length reaped.released in
    record {
      answer = ap (λ closed. Reaped closed c.reap-ordered.result) reaped.released ∙ ap (Reaped (reap_closed (as_nanos c.args.now) c.args.self.now.picture)) reaped.answer;
      after = reaped.after;
      noted = c.reap-ordered.ensures.noted ∙ (ap (λ n. noted_reap now n c.reap-ordered.result old) many
          ∙ ap (λ orders. noted_reap now (length (reap_closed now old.picture)) orders old) reaped.answer);
      unchanged = tt;
      sound = reaped.sound;
    }
