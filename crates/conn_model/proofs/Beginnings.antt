-- The texts of forms begin a transaction, and have no NUL.
use Rattle.std.proofs.Common.{◌≡◌, ℕ, List, Option, Some, None, refl}
use Rattle.conn_model.specs.Beginnings.{form_text}
use Rattle.conn_model.specs.Classes.{begins, same_text, without_one, is_nothing, is_built, is_begin, is_write, number_behind, class}
use Rattle.conn_model.specs.Nuls.{nul_place}
use Rattle.conn_model.specs.declared.class.Class.TheVariants.{Begin}
use Rattle.conn_model.specs.declared.transaction.BlockForm.{BlockForm}
use Rattle.conn_model.specs.declared.transaction.BlockForm.TheVariants.{Immediate, Exclusive, Build}
use Rattle.conn_model.specs.declared.transaction.Deferrable.{Deferrable}
use Rattle.conn_model.specs.declared.transaction.Deferrable.TheVariants as deferrables
use Rattle.conn_model.specs.declared.transaction.IsolationLevel.{IsolationLevel}
use Rattle.conn_model.specs.declared.transaction.IsolationLevel.TheVariants.{ReadCommitted, RepeatableRead, Serializable}
use Rattle.conn_model.specs.declared.transaction.ReadMode.{ReadMode}
use Rattle.conn_model.specs.declared.transaction.ReadMode.TheVariants.{ReadOnly, ReadWrite}

-- what a reader of the text is to find: its class, and no NUL
abbrev IsPlainBegin : List ℕ → Type 0
IsPlainBegin text = (class text ≡ Begin) × (nul_place text ≡ None)

plain_by : (i : Option IsolationLevel) (m : Option ReadMode) (d : Option Deferrable) → IsPlainBegin (form_text (Build (record { isolation_level = i; read_mode = m; deferrable = d })))
unfolding begins same_text without_one is_nothing is_built is_begin is_write number_behind class
plain_by None None None = (refl, refl)
plain_by None None (Some deferrables.Deferrable) = (refl, refl)
plain_by None None (Some deferrables.NotDeferrable) = (refl, refl)
plain_by None (Some ReadOnly) None = (refl, refl)
plain_by None (Some ReadOnly) (Some deferrables.Deferrable) = (refl, refl)
plain_by None (Some ReadOnly) (Some deferrables.NotDeferrable) = (refl, refl)
plain_by None (Some ReadWrite) None = (refl, refl)
plain_by None (Some ReadWrite) (Some deferrables.Deferrable) = (refl, refl)
plain_by None (Some ReadWrite) (Some deferrables.NotDeferrable) = (refl, refl)
plain_by (Some ReadCommitted) None None = (refl, refl)
plain_by (Some ReadCommitted) None (Some deferrables.Deferrable) = (refl, refl)
plain_by (Some ReadCommitted) None (Some deferrables.NotDeferrable) = (refl, refl)
plain_by (Some ReadCommitted) (Some ReadOnly) None = (refl, refl)
plain_by (Some ReadCommitted) (Some ReadOnly) (Some deferrables.Deferrable) = (refl, refl)
plain_by (Some ReadCommitted) (Some ReadOnly) (Some deferrables.NotDeferrable) = (refl, refl)
plain_by (Some ReadCommitted) (Some ReadWrite) None = (refl, refl)
plain_by (Some ReadCommitted) (Some ReadWrite) (Some deferrables.Deferrable) = (refl, refl)
plain_by (Some ReadCommitted) (Some ReadWrite) (Some deferrables.NotDeferrable) = (refl, refl)
plain_by (Some RepeatableRead) None None = (refl, refl)
plain_by (Some RepeatableRead) None (Some deferrables.Deferrable) = (refl, refl)
plain_by (Some RepeatableRead) None (Some deferrables.NotDeferrable) = (refl, refl)
plain_by (Some RepeatableRead) (Some ReadOnly) None = (refl, refl)
plain_by (Some RepeatableRead) (Some ReadOnly) (Some deferrables.Deferrable) = (refl, refl)
plain_by (Some RepeatableRead) (Some ReadOnly) (Some deferrables.NotDeferrable) = (refl, refl)
plain_by (Some RepeatableRead) (Some ReadWrite) None = (refl, refl)
plain_by (Some RepeatableRead) (Some ReadWrite) (Some deferrables.Deferrable) = (refl, refl)
plain_by (Some RepeatableRead) (Some ReadWrite) (Some deferrables.NotDeferrable) = (refl, refl)
plain_by (Some Serializable) None None = (refl, refl)
plain_by (Some Serializable) None (Some deferrables.Deferrable) = (refl, refl)
plain_by (Some Serializable) None (Some deferrables.NotDeferrable) = (refl, refl)
plain_by (Some Serializable) (Some ReadOnly) None = (refl, refl)
plain_by (Some Serializable) (Some ReadOnly) (Some deferrables.Deferrable) = (refl, refl)
plain_by (Some Serializable) (Some ReadOnly) (Some deferrables.NotDeferrable) = (refl, refl)
plain_by (Some Serializable) (Some ReadWrite) None = (refl, refl)
plain_by (Some Serializable) (Some ReadWrite) (Some deferrables.Deferrable) = (refl, refl)
plain_by (Some Serializable) (Some ReadWrite) (Some deferrables.NotDeferrable) = (refl, refl)

-- each form's text is a begin, and every dialect is sent it
pub form_is_plain : (f : BlockForm) → IsPlainBegin (form_text f)
unfolding begins same_text without_one is_nothing is_built is_begin is_write number_behind class
form_is_plain Immediate = (refl, refl)
form_is_plain Exclusive = (refl, refl)
form_is_plain (Build c) = plain_by c.isolation_level c.read_mode c.deferrable
