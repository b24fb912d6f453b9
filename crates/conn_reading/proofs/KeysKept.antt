-- A register that has an entry of a key keeps it, and no query of the key is prepared.
use Rattle.std.proofs.Common.{◌≡◌, ℕ, ◌+◌, Bool, true, false, List, [], ◌∷◌, ◌++◌, Option, Some, None, refl, sym, ap, subst, ◌∙◌}
use Rattle.std.specs.Prelude.{⊤, if◌then◌else◌, is_some}
use Rattle.std.specs.Option.{option_map}
use Rattle.conn_model.specs.Caches.{same_size, Register}
use Rattle.conn_model.specs.declared.item.Call.{Call}
use Rattle.conn_model.specs.declared.item.Call.TheVariants as calls
use Rattle.conn_model.specs.declared.item.Dialect.{Dialect}
use Rattle.conn_model.specs.declared.item.Dialect.TheVariants.{Pg, Mysql, Sqlite}
use Rattle.conn_model.specs.declared.item.Item.{Item}
use Rattle.conn_model.specs.declared.cache.CacheSize.{CacheSize}
use Rattle.conn_model.specs.declared.cache.CacheSize.TheVariants.{Unbounded, Disabled}
use Rattle.conn_model.specs.declared.value.BindType.{BindType}
use Rattle.conn_server.specs.Logged.{is_accepted}
use Rattle.conn_cache.specs.KeyLaws.{key_equiv}
use Rattle.conn_cache.specs.Keys.{key_of, same_key}
use Rattle.conn_cache.specs.QueryProcesses.{ping_view, types_for}
use Rattle.conn_cache.specs.QueryViews.{QueryView}
use Rattle.conn_cache.specs.Registers.{due, due_at, entry_key, entry_of, is_entry_of, is_looked_up, place_from, register_after, register_sized}
use Rattle.conn_model.specs.declared.cache.CacheEntry.{CacheEntry}
use Rattle.conn_cache.specs.declared.entry.Due.{Due}
use Rattle.conn_cache.specs.declared.entry.Due.TheVariants as dues
use Rattle.conn_cache.specs.declared.key.StatementCacheKey.{StatementCacheKey}
use Rattle.conn_script.specs.declared.query.Declared.{Declared}
use Rattle.conn_reading.specs.Asking.{find_query, view_of}
use Rattle.conn_reading.specs.Owning.{IsCallOf, IsNamed, IsOwn, IsOwnOf, given_by, last_given, register_given, register_queried, register_read}
use Rattle.conn_reading.specs.Prepared.{HasKey, LeavesUnbounded, PreparesNone, deed_query}
use Rattle.conn_reading.specs.Sessions.{Each}
use Rattle.conn_reading.specs.declared.deed.Deed.{Deed}
use Rattle.conn_reading.specs.declared.deed.Deed.TheVariants as deeds

-- the register keeps all, and has an entry of the key
pub record HoldsKey (key : StatementCacheKey) (r : Register) : Type 0 where
  pub size : r.size ≡ Unbounded
  pub found : is_some (place_from key 0 r.entries) ≡ true

-- ---- it keeps it

found-append : (key : StatementCacheKey) (place : ℕ) (es more : List CacheEntry) → is_some (place_from key place es) ≡ true → is_some (place_from key place (es ++ more)) ≡ true
found-append key place [] more h = absurd (cc)
found-append key place (e ∷ es) more h = by_key (same_key (entry_key e) key) h (found-append key (place + 1) es more)
  where
    by_key : (b : Bool) → is_some (if b then Some (place, e) else place_from key (place + 1) es) ≡ true → (is_some (place_from key (place + 1) es) ≡ true → is_some (place_from key (place + 1) (es ++ more)) ≡ true)
        → is_some (if b then Some (place, e) else place_from key (place + 1) (es ++ more)) ≡ true
    by_key true g rest = refl
    by_key false g rest = rest g

found-last : (key : StatementCacheKey) (place : ℕ) (es : List CacheEntry) (e : CacheEntry) → entry_key e ≡ key → is_some (place_from key place (es ++ e ∷ [])) ≡ true
found-last key place [] e is =
    let same : same_key (entry_key e) key ≡ true = ap (λ (k : StatementCacheKey). same_key k key) is ∙ key_equiv.refl key in
    ap (λ (b : Bool). let o : Option (ℕ × CacheEntry) = if b then Some (place, e) else None in is_some o) same
found-last key place (x ∷ es) e is = by_key (same_key (entry_key x) key) (found-last key (place + 1) es e is)
  where
    by_key : (b : Bool) → is_some (place_from key (place + 1) (es ++ e ∷ [])) ≡ true → is_some (if b then Some (place, x) else place_from key (place + 1) (es ++ e ∷ [])) ≡ true
    by_key true rest = refl
    by_key false rest = rest

module _ (key : StatementCacheKey) where
  holds_given : (q : QueryView) (types : List BindType) (g : Option Bool) (r : Register) → HoldsKey key r → HoldsKey key (register_given q types g r)
  holds_given q types None r h = h
  holds_given q types (Some true) r h = record { size = h.size; found = found-append key 0 r.entries (entry_of q types (r.counter + 1) ∷ []) h.found }
  holds_given q types (Some false) r h = record { size = h.size; found = h.found }

  holds_queried : (d : Dialect) (o : Option Declared) (items : List Item) (r : Register) → HoldsKey key r → HoldsKey key (register_queried d o items r)
  holds_queried d None items r h = h
  holds_queried d (Some q) items r h = holds_given (view_of q) (types_for d (view_of q)) (last_given None items) r h

  holds_sized : (size : CacheSize) (r : Register) → size ≡ Unbounded → HoldsKey key r → HoldsKey key (register_sized size r)
  holds_sized size r is h =
      subst (λ (b : Bool). HoldsKey key (if b then r else record { size = size; counter = r.counter; entries = [] })) (sym (ap (λ (s : CacheSize). same_size s r.size) is ∙ ap (same_size Unbounded) h.size)) h

  pub holds_read : (d : Dialect) (queries : List Declared) (deed : Deed) (items : List Item) (r : Register) → LeavesUnbounded deed → HoldsKey key r → HoldsKey key (register_read d queries deed items r)
  holds_read d queries (deeds.Batch text) items r keeps h = h
  holds_read d queries deeds.Begin items r keeps h = h
  holds_read d queries (deeds.BeginBy form) items r keeps h = h
  holds_read d queries deeds.Commit items r keeps h = h
  holds_read d queries deeds.Rollback items r keeps h = h
  holds_read d queries deeds.TestBegin items r keeps h = h
  holds_read d queries (deeds.Close kind answer) items r keeps h = h
  holds_read d queries (deeds.Query call n) items r keeps h = holds_queried d (find_query n queries) items r h
  holds_read d queries (deeds.CacheSize size) items r keeps h = holds_sized size r keeps h
  holds_read d queries deeds.Ping items r keeps h = holds_given ping_view (types_for d ping_view) (last_given None items) r h

-- ---- nothing is prepared

-- an entry of the key is there, the query's own or another's
abbrev IsThere : Due → Type 0
IsThere dues.Plain = ⊥
IsThere (dues.Found place) = ⊤
IsThere dues.Clash = ⊤
IsThere dues.Exhausted = ⊥
IsThere dues.New = ⊥

found_there : (q : QueryView) (types : List BindType) (counter : ℕ) (o : Option (ℕ × CacheEntry)) → is_some o ≡ true → IsThere (due_at q types counter o)
found_there q types counter None h = absurd (cc)
found_there q types counter (Some p) h = elim (is_entry_of q types p.1) as (λ b. IsThere (if b then dues.Found p.0 else dues.Clash)) [ true ↦ tt | false ↦ tt ]

due_there : (q : QueryView) (types : List BindType) (key : StatementCacheKey) (r : Register) → q.is_safe ≡ true → key_of q types ≡ key → HoldsKey key r → IsThere (due q types r)
due_there q types key r safe is h =
    let looked_up : is_looked_up r.size q.is_safe ≡ true = ap (λ (s : CacheSize). is_looked_up s q.is_safe) h.size ∙ safe in
    let found : IsThere (due_at q types r.counter (place_from (key_of q types) 0 r.entries)) =
    found_there q types r.counter (place_from (key_of q types) 0 r.entries) (ap (λ (k : StatementCacheKey). is_some (place_from k 0 r.entries)) is ∙ h.found) in
    subst (λ (b : Bool). IsThere (if b then due_at q types r.counter (place_from (key_of q types) 0 r.entries) else dues.Plain)) (sym looked_up) found

named_none : (d : Dialect) (counter : ℕ) (x : Due) (name : Option ℕ) → IsThere x → IsNamed d counter x name → ⊥
named_none Pg counter dues.Plain name there h = there
named_none Mysql counter dues.Plain name there h = there
named_none Sqlite counter dues.Plain name there h = there
named_none d counter (dues.Found place) name there h = h
named_none d counter dues.Clash name there h = h
named_none d counter dues.Exhausted name there h = there
named_none d counter dues.New name there h = there

own_none : (d : Dialect) (q : QueryView) (key : StatementCacheKey) (r : Register) (call : Call) (text : List ℕ) → HasKey d key (Some q) → HoldsKey key r → IsOwn d q r call text → PreparesNone call
own_none d q key r calls.Exec text has h own = tt
own_none d q key r (calls.Prepare name) text has h own = named_none d r.counter (due q (types_for d q) r) name (due_there q (types_for d q) key r has.0 has.1 h) own.1
own_none d q key r (calls.Run binds) text has h own = tt
own_none d q key r calls.Fetch text has h own = tt

each_none : (d : Dialect) (q : QueryView) (key : StatementCacheKey) (r : Register) (items : List Item) → HasKey d key (Some q) → HoldsKey key r → Each (λ (i : Item). IsOwn d q r i.call i.text) items → Each (λ (i : Item). PreparesNone i.call) items
each_none d q key r [] has h own = tt
each_none d q key r (i ∷ is) has h own = (own_none d q key r i.call i.text has h own.0, each_none d q key r is has h own.1)

declared_none : (d : Dialect) (o : Option Declared) (key : StatementCacheKey) (r : Register) (items : List Item) → HasKey d key (option_map view_of o) → HoldsKey key r → Each (λ (i : Item). IsOwnOf d o r i.call i.text) items → Each (λ (i : Item). PreparesNone i.call) items
declared_none d None key r items has h own = absurd has
declared_none d (Some q) key r items has h own = each_none d (view_of q) key r items has h own

pub deed_none : (d : Dialect) (queries : List Declared) (deed : Deed) (key : StatementCacheKey) (r : Register) (items : List Item) → HasKey d key (deed_query queries deed) → HoldsKey key r → Each (λ (i : Item). IsCallOf d queries r deed i.call i.text) items
    → Each (λ (i : Item). PreparesNone i.call) items
deed_none d queries (deeds.Batch text) key r items has h own = absurd has
deed_none d queries deeds.Begin key r items has h own = absurd has
deed_none d queries (deeds.BeginBy form) key r items has h own = absurd has
deed_none d queries deeds.Commit key r items has h own = absurd has
deed_none d queries deeds.Rollback key r items has h own = absurd has
deed_none d queries deeds.TestBegin key r items has h own = absurd has
deed_none d queries (deeds.Close kind answer) key r items has h own = absurd has
deed_none d queries (deeds.Query call n) key r items has h own = declared_none d (find_query n queries) key r items has h own
deed_none d queries (deeds.CacheSize size) key r items has h own = absurd has
deed_none d queries deeds.Ping key r items has h own = each_none d ping_view key r items has h own

-- ---- a statement that was accepted has an entry

named_due : (d : Dialect) (counter name : ℕ) (x : Due) → IsNamed d counter x (Some name) → x ≡ dues.New
named_due Pg counter name dues.Plain h = absurd h
named_due Mysql counter name dues.Plain h = absurd (cc)
named_due Sqlite counter name dues.Plain h = absurd (cc)
named_due d counter name dues.New h = refl
named_due d counter name (dues.Found place) h = absurd h
named_due d counter name dues.Clash h = absurd h
named_due d counter name dues.Exhausted h = absurd h

module _ (d : Dialect) (q : QueryView) (r : Register) where
  abbrev IsNew : Type 0
  IsNew = due q (types_for d q) r ≡ dues.New

  first_due : (g : Option Bool) (call : Call) (text : List ℕ) (accepted : Bool) → IsOwn d q r call text → ((x : Bool) → g ≡ Some x → IsNew) → (x : Bool) → given_by call accepted g ≡ Some x → IsNew
  first_due g calls.Exec text accepted own before = before
  first_due g (calls.Prepare None) text accepted own before = before
  first_due g (calls.Prepare (Some name)) text accepted own before = λ x e. named_due d r.counter name (due q (types_for d q) r) own.1
  first_due g (calls.Run binds) text accepted own before = before
  first_due g calls.Fetch text accepted own before = before

  given_due : (g : Option Bool) (items : List Item) → Each (λ (i : Item). IsOwn d q r i.call i.text) items → ((x : Bool) → g ≡ Some x → IsNew) → last_given g items ≡ Some true → IsNew
  given_due g [] own before is = before true is
  given_due g (i ∷ is) own before h = given_due (given_by i.call (is_accepted i.answer) g) is own.1 (first_due g i.call i.text (is_accepted i.answer) own.0 before) h

  new_size : IsNew → r.size ≡ Unbounded
  new_size is = by_size r.size refl
    where
      by_size : (s : CacheSize) → r.size ≡ s → r.size ≡ Unbounded
      by_size Unbounded e = e
      by_size Disabled e =
          let plain : due q (types_for d q) r ≡ dues.Plain = ap (λ (s : CacheSize). if is_looked_up s q.is_safe then due_at q (types_for d q) r.counter (place_from (key_of q (types_for d q)) 0 r.entries) else dues.Plain) e in
          absurd (cc)

  query_holds : (items : List Item) → Each (λ (i : Item). IsOwn d q r i.call i.text) items → last_given None items ≡ Some true → HoldsKey (key_of q (types_for d q)) (register_given q (types_for d q) (last_given None items) r)
  query_holds items own is =
      let entry : CacheEntry = entry_of q (types_for d q) (r.counter + 1) in
      let new : HoldsKey (key_of q (types_for d q)) (register_after q (types_for d q) true r) =
      record { size = new_size (given_due None items own (λ x e. absurd (cc)) is); found = found-last (key_of q (types_for d q)) 0 r.entries entry refl } in
      subst (λ (g : Option Bool). HoldsKey (key_of q (types_for d q)) (register_given q (types_for d q) g r)) (sym is) new

declared_holds : (d : Dialect) (o : Option Declared) (q : QueryView) (r : Register) (items : List Item) → option_map view_of o ≡ Some q → Each (λ (i : Item). IsOwnOf d o r i.call i.text) items → last_given None items ≡ Some true
    → HoldsKey (key_of q (types_for d q)) (register_queried d o items r)
declared_holds d None q r items is own given = absurd (cc)
declared_holds d (Some x) q r items is own given =
    let same : view_of x ≡ q = cc in
    subst (λ (y : QueryView). HoldsKey (key_of y (types_for d y)) (register_queried d (Some x) items r)) same (query_holds d (view_of x) r items own given)

pub deed_holds : (d : Dialect) (queries : List Declared) (deed : Deed) (q : QueryView) (r : Register) (items : List Item) → deed_query queries deed ≡ Some q → Each (λ (i : Item). IsCallOf d queries r deed i.call i.text) items → last_given None items ≡ Some true
    → HoldsKey (key_of q (types_for d q)) (register_read d queries deed items r)
deed_holds d queries (deeds.Batch text) q r items is own given = absurd (cc)
deed_holds d queries deeds.Begin q r items is own given = absurd (cc)
deed_holds d queries (deeds.BeginBy form) q r items is own given = absurd (cc)
deed_holds d queries deeds.Commit q r items is own given = absurd (cc)
deed_holds d queries deeds.Rollback q r items is own given = absurd (cc)
deed_holds d queries deeds.TestBegin q r items is own given = absurd (cc)
deed_holds d queries (deeds.Close kind answer) q r items is own given = absurd (cc)
deed_holds d queries (deeds.Query call n) q r items is own given = declared_holds d (find_query n queries) q r items is own given
deed_holds d queries (deeds.CacheSize size) q r items is own given = absurd (cc)
deed_holds d queries deeds.Ping q r items is own given =
    let same : ping_view ≡ q = cc in
    subst (λ (y : QueryView). HoldsKey (key_of y (types_for d y)) (register_read d queries deeds.Ping items r)) same (query_holds d ping_view r items own given)
