-- What a contract sees of a lent connection.
use Rattle.std.specs.Prelude.{ℕ, List}
use Rattle.std.specs.declared.time.Duration.{Duration}

-- the connection and what is kept beside it under each kind; the settings of the pool that lent it, under which id, and when
pub record SeenConnection (C K X S : Type 0) : Type 0 where
  pub connection : C
  pub extensions : List (K × X)
  pub settings : S
  pub id : ℕ
  pub lent_at : Duration
