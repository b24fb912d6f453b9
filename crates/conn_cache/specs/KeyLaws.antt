-- Keys that are one can't be told apart, and are hashed alike.
use Rattle.std.specs.Prelude.{◌≡◌, true, ◌&&◌, refl}
use Rattle.std.specs.Cmp.{IsEquivalence, first_so, second_so, nat_eq_equiv, unsigned_Decides}
use Rattle.std.specs.Cmp.Lexicographic.{lists_equiv}
use Rattle.std.specs.Hash as fed
use mathlib.Core.Bool.{true≢false}
use mathlib.Core.Path.{ap, sym}
use Rattle.conn_model.specs.Classes.{same_text}
use Rattle.conn_model.specs.TextLaws.{text_equiv, text_is}
use Rattle.conn_model.specs.contracts.value.BindTypeEq.TheImpl.Laws.{laws-law}
use Rattle.conn_cache.specs.declared.key.StatementCacheKey.{StatementCacheKey}
use Rattle.conn_cache.specs.declared.key.StatementCacheKey.TheVariants.{Id, Sql}
use Rattle.conn_cache.specs.Keys.{key_writes, same_key, same_types}

types_equiv : IsEquivalence same_types
unfolding same_types
types_equiv = lists_equiv laws-law

key_refl : (x : StatementCacheKey) → same_key x x ≡ true
key_refl (Id a) = nat_eq_equiv.refl a
key_refl (Sql s ts) = λ i. text_equiv.refl s i && types_equiv.refl ts i

key_symm : (x y : StatementCacheKey) → same_key x y ≡ same_key y x
key_symm (Id a) (Id b) = nat_eq_equiv.symm a b
key_symm (Id a) (Sql t us) = refl
key_symm (Sql s ts) (Id b) = refl
key_symm (Sql s ts) (Sql t us) = λ i. text_equiv.symm s t i && types_equiv.symm ts us i

key_congr : (x y z : StatementCacheKey) → same_key x y ≡ true → same_key x z ≡ same_key y z
key_congr (Id a) (Id b) (Id c) h = nat_eq_equiv.congr a b c h
key_congr (Id a) (Id b) (Sql r vs) h = refl
key_congr (Id a) (Sql t us) z h = absurd (true≢false (sym h))
key_congr (Sql s ts) (Id b) z h = absurd (true≢false (sym h))
key_congr (Sql s ts) (Sql t us) (Id c) h = refl
key_congr (Sql s ts) (Sql t us) (Sql r vs) h = λ i. text_equiv.congr s t r (first_so (same_text s t) (same_types ts us) h) i && types_equiv.congr ts us vs (second_so (same_text s t) (same_types ts us) h) i

-- being one key is an equivalence
pub key_equiv : IsEquivalence same_key
key_equiv = record { refl = key_refl; symm = key_symm; congr = key_congr }

-- keys that are one are hashed alike
pub writes_alike : (x y : StatementCacheKey) → same_key x y ≡ true → key_writes x ≡ key_writes y
writes_alike (Id a) (Id b) h = ap fed.u64 ((unsigned_Decides a b).0 h)
writes_alike (Id a) (Sql t us) h = absurd (true≢false (sym h))
writes_alike (Sql s ts) (Id b) h = absurd (true≢false (sym h))
writes_alike (Sql s ts) (Sql t us) h = ap fed.str (text_is s t (first_so (same_text s t) (same_types ts us) h))
