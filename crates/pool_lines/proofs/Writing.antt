-- What a writer holds after writes in a row.
use Rattle.std.proofs.Common.{◌≡◌, ℕ, List, [], ◌++◌, Option, Some, None, append_assoc, append-nil, ap, sym, subst, ◌∙◌}
use Rattle.std.specs.Io.KnownBytes.{Appends, Keeps}

pub join : (a b c : Option (List ℕ)) (x y : List ℕ) → Appends a b x → Appends b c y → Appends a c (x ++ y)
join None b c x y p q = tt
join (Some a) None c x y p q = absurd p
join (Some a) (Some b) None x y p q = absurd q
join (Some a) (Some b) (Some c) x y p q = q ∙ ap (λ (z : List ℕ). z ++ y) p ∙ append_assoc a x y

pub kept_then : (a b c : Option (List ℕ)) (y : List ℕ) → Keeps a b → Appends b c y → Appends a c y
kept_then None b c y p q = tt
kept_then (Some a) None c y p q = absurd p
kept_then (Some a) (Some b) None y p q = absurd q
kept_then (Some a) (Some b) (Some c) y p q = q ∙ ap (λ (z : List ℕ). z ++ y) p

pub then_kept : (a b c : Option (List ℕ)) (x : List ℕ) → Appends a b x → Keeps b c → Appends a c x
then_kept None b c x p q = tt
then_kept (Some a) None c x p q = absurd p
then_kept (Some a) (Some b) None x p q = absurd q
then_kept (Some a) (Some b) (Some c) x p q = q ∙ p

pub kept_alone : (a b : Option (List ℕ)) → Keeps a b → Appends a b []
kept_alone None b p = tt
kept_alone (Some a) None p = absurd p
kept_alone (Some a) (Some b) p = p ∙ sym (append-nil a)

pub nothing : (a : Option (List ℕ)) → Appends a a []
nothing None = tt
nothing (Some a) = sym (append-nil a)

-- three writes in a row
pub in_three : (a b d new : Option (List ℕ)) (x y z t : List ℕ) → Appends a b x → Appends b d y → Appends d new z → t ≡ x ++ (y ++ z) → Appends a new t
in_three a b d new x y z t p q s e = subst (λ (u : List ℕ). Appends a new u) (sym e) (join a b new x (y ++ z) p (join b d new y z q s))
