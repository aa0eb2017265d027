-- What a change of links does to a walk along them.
use Rattle.std.proofs.Common.{◌≡◌, ◌≢◌, ℕ, ◌<◌, ◌≤◌, List, length, set, get_or, ◌∙◌, ap, arith}
use Rattle.std.proofs.lemmas.Bool.Decides.{nat_tests}
use Rattle.std.proofs.lemmas.Grind.{elements}
use Rattle.std.proofs.lemmas.List.{get_or_past, get_or_default}
use Rattle.pool_state.specs.declared.line.links.Link.{Link}
use Rattle.pool_state.specs.Ring.{link, next_of, prev_of, AreInverse, set_at, skipped, before, after}

-- a write at one node
pub next_of-set : (ls : List Link) (i : ℕ) (v : Link) (x : ℕ) → i < length ls → next_of (set ls i v) x ≡ set_at i v.next (next_of ls) x
next_of-set ls i v x lt = grind (arith, nat_tests, elements)

pub prev_of-set : (ls : List Link) (i : ℕ) (v : Link) (x : ℕ) → i < length ls → prev_of (set ls i v) x ≡ set_at i v.prev (prev_of ls) x
prev_of-set ls i v x lt = grind (arith, nat_tests, elements)

past_prev : (ls : List Link) (x : ℕ) → length ls ≤ x → prev_of ls x ≡ x
past_prev ls x le = ap (λ (l : Link). l.prev) (get_or_past ls x (link x x) le)

past_next : (ls : List Link) (x : ℕ) → length ls ≤ x → next_of ls x ≡ x
past_next ls x le = ap (λ (l : Link). l.next) (get_or_past ls x (link x x) le)

-- no step leaves the nodes
pub within : (ls : List Link) (x : ℕ) → AreInverse (next_of ls) (prev_of ls) → x < length ls → next_of ls x < length ls
within ls x inv lt = grind (arith, nat_tests, elements, inv.0 x, past_prev ls (next_of ls x))

pub within_prev : (ls : List Link) (x : ℕ) → AreInverse (next_of ls) (prev_of ls) → x < length ls → prev_of ls x < length ls
within_prev ls x inv lt = grind (arith, nat_tests, elements, inv.1 x, past_next ls (prev_of ls x))

-- a node is taken out
pub skip_step : (f f1 f2 f3 f4 g : ℕ → ℕ) (at p n x : ℕ) → AreInverse f g → p ≡ g at → n ≡ f at → f1 x ≡ set_at p n f x → f2 x ≡ f1 x → f3 x ≡ set_at at at f2 x → f4 x ≡ f3 x → f4 x ≡ skipped at f x
skip_step f f1 f2 f3 f4 g at p n x inv e1 e2 h1 h2 h3 h4 = grind (arith, nat_tests, inv.0 x, inv.1 at)

pub skip_inverse : (f g : ℕ → ℕ) (at x : ℕ) → AreInverse f g → skipped at g (skipped at f x) ≡ x
skip_inverse f g at x inv = grind (arith, nat_tests, inv.0 x, inv.1 x, inv.0 at, inv.1 at)

-- a node is put before another
pub splice_step : (f f1 f2 f3 f4 g : ℕ → ℕ) (at end p x : ℕ) → AreInverse f g → p ≡ g end → f1 x ≡ set_at p at f x → f2 x ≡ f1 x → f3 x ≡ set_at at end f2 x → f4 x ≡ f3 x → f4 x ≡ before at end f x
splice_step f f1 f2 f3 f4 g at end p x inv e1 h1 h2 h3 h4 = grind (arith, nat_tests, inv.0 x, inv.1 end)

pub splice_inverse : (f g : ℕ → ℕ) (at end x : ℕ) → AreInverse f g → at ≢ end → f at ≡ at → after at end g (before at end f x) ≡ x
splice_inverse f g at end x inv ne one = grind (arith, nat_tests, inv.0 x, inv.1 x, inv.0 at, inv.1 at, inv.0 end, inv.1 end)

pub splice_inverse_back : (f g : ℕ → ℕ) (at end x : ℕ) → AreInverse f g → at ≢ end → f at ≡ at → before at end f (after at end g x) ≡ x
splice_inverse_back f g at end x inv ne one = grind (arith, nat_tests, inv.0 x, inv.1 x, inv.0 at, inv.1 at, inv.0 end, inv.1 end)

-- a read
pub next_read : (ls : List Link) (x : ℕ) (l : Link) → x < length ls → l ≡ get_or ls x l → l.next ≡ next_of ls x
next_read ls x l lt e = ap (λ (v : Link). v.next) (e ∙ get_or_default ls x l (link x x) lt)

pub prev_read : (ls : List Link) (x : ℕ) (l : Link) → x < length ls → l ≡ get_or ls x l → l.prev ≡ prev_of ls x
prev_read ls x l lt e = ap (λ (v : Link). v.prev) (e ∙ get_or_default ls x l (link x x) lt)
