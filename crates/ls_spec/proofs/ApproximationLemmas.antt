-- The lower approximation lies within the specifier, and the specifier within the upper one.
use Rattle.std.proofs.Common.{true, false, inl, inr}
use Rattle.ls_object.specs.Universe.{LispObject, node, pair, Structures}
use Rattle.ls_spec.specs.Specifier.{Specifier, and_of, or_of, not_of, cons_of, satisfies, Specifiers, no_more, also}
use Rattle.ls_spec.specs.Membership.{Belongs, BelongsToAll, BelongsToSome}
use Rattle.ls_spec.specs.Approximation.{low, high, bounded_all}

mutual
  pub low_within : (structures : Structures) (s : Specifier) (o : LispObject) → Belongs structures (low s) o → Belongs structures s o
  low_within structures (and_of ss) o h = low_within_all structures ss o h
  low_within structures (or_of ss) o h = low_within_some structures ss o h
  low_within structures (not_of s) o h = λ k. h (within_high structures s o k)
  low_within structures (cons_of a b) (node marks (pair car cdr)) h = (low_within structures a car h.0, low_within structures b cdr h.1)
  low_within structures (cons_of a b) (node marks _) h = h
  low_within structures (satisfies p) o h = absurd h
  low_within structures _ o h = h

  low_within_all : (structures : Structures) (ss : Specifiers) (o : LispObject) → BelongsToAll structures (bounded_all false ss) o → BelongsToAll structures ss o
  low_within_all structures no_more o h = h
  low_within_all structures (also s ss) o h = (low_within structures s o h.0, low_within_all structures ss o h.1)

  low_within_some : (structures : Structures) (ss : Specifiers) (o : LispObject) → BelongsToSome structures (bounded_all false ss) o → BelongsToSome structures ss o
  low_within_some structures no_more o h = h
  low_within_some structures (also s ss) o (inl h) = inl (low_within structures s o h)
  low_within_some structures (also s ss) o (inr h) = inr (low_within_some structures ss o h)

  pub within_high : (structures : Structures) (s : Specifier) (o : LispObject) → Belongs structures s o → Belongs structures (high s) o
  within_high structures (and_of ss) o h = within_high_all structures ss o h
  within_high structures (or_of ss) o h = within_high_some structures ss o h
  within_high structures (not_of s) o h = λ k. h (low_within structures s o k)
  within_high structures (cons_of a b) (node marks (pair car cdr)) h = (within_high structures a car h.0, within_high structures b cdr h.1)
  within_high structures (cons_of a b) (node marks _) h = h
  within_high structures (satisfies p) o h = tt
  within_high structures _ o h = h

  within_high_all : (structures : Structures) (ss : Specifiers) (o : LispObject) → BelongsToAll structures ss o → BelongsToAll structures (bounded_all true ss) o
  within_high_all structures no_more o h = h
  within_high_all structures (also s ss) o h = (within_high structures s o h.0, within_high_all structures ss o h.1)

  within_high_some : (structures : Structures) (ss : Specifiers) (o : LispObject) → BelongsToSome structures ss o → BelongsToSome structures (bounded_all true ss) o
  within_high_some structures no_more o h = h
  within_high_some structures (also s ss) o (inl h) = inl (within_high structures s o h)
  within_high_some structures (also s ss) o (inr h) = inr (within_high_some structures ss o h)
