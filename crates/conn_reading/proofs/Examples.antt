-- Histories that meet what the laws ask for.
use Rattle.std.proofs.Common.{◌≡◌, ℕ, pos, true, false, List, [], ◌∷◌, codes, refl, Ok, Err}
use Rattle.std.specs.Fmt.{digits}
use Rattle.conn_result.specs.declared.error.DatabaseErrorKind.TheVariants.{Unknown}
use Rattle.conn_result.specs.declared.error.Error.{Error}
use Rattle.conn_result.specs.declared.error.Error.TheVariants.{DatabaseError, RollbackErrorOnCommit}
use Rattle.conn_model.specs.Classes.{class, is_begin, is_built, is_write, same_text, begins, number_behind}
use Rattle.conn_model.specs.States.{State, Idle, Open, Mark}
use Rattle.conn_model.specs.declared.item.Answer.{Answer}
use Rattle.conn_model.specs.declared.item.Answer.TheVariants.{Accepted, Refused}
use Rattle.conn_model.specs.declared.item.Call.TheVariants.{Exec}
use Rattle.conn_model.specs.declared.item.Dialect.TheVariants.{Sqlite}
use Rattle.conn_model.specs.declared.item.Effect.TheVariants.{Stays}
use Rattle.conn_model.specs.declared.item.Item.{Item}
use Rattle.conn_manager.specs.Manages.{Done, done, flat, send_process}
use Rattle.conn_manager.specs.Statuses.{Status, no_depth, at_depth}
use Rattle.conn_manager.specs.declared.status.TransactionManagerStatus.TheVariants.{InError}
use Rattle.conn_reading.specs.Folds.{alone, fold_of, FoldPremises}
use Rattle.conn_reading.specs.Histories.{Operation, Begin, Commit, Rollback, Asks, Step, step_items, IsHistory}
use Rattle.conn_reading.specs.Reading.{Beside}
use Rattle.conn_reading.proofs.Premises.{lawful_meets}

abbrev item : List ℕ → Answer → Item
item text answer = record { call = Exec; text = text; answer = answer }

-- a text alone
abbrev sent : List ℕ → Operation
sent text = Asks (λ d s. send_process d text s)

abbrev step_of : Operation → List ℕ → Answer → Done → Step
step_of operation text answer a = record { operation = operation; items = item text answer ∷ []; answer = a }

abbrev at : ℕ → Status
at depth = at_depth (record { transaction_depth = depth; requires_rollback_maybe_up_to_top_level = false; test_transaction = false })

-- begin, write a, begin, write b, roll back, commit
abbrev nested : List Step
nested =
    step_of Begin (codes "BEGIN") Accepted (done (Ok tt) (at 1))
    ∷ step_of (sent (codes "INSERT a")) (codes "INSERT a") Accepted (done (Ok tt) (at 1))
    ∷ step_of Begin (codes "SAVEPOINT diesel_savepoint_1") Accepted (done (Ok tt) (at 2))
    ∷ step_of (sent (codes "INSERT b")) (codes "INSERT b") Accepted (done (Ok tt) (at 2))
    ∷ step_of Rollback (codes "ROLLBACK TO SAVEPOINT diesel_savepoint_1") Accepted (done (Ok tt) (at 1))
    ∷ step_of Commit (codes "COMMIT") Accepted (done (Ok tt) no_depth)
    ∷ []

-- a alone is kept
the_fold : (fold_of nested (alone [])).lowest ≡ codes "INSERT a" ∷ []
unfolding class is_begin is_built is_write same_text begins number_behind digits
the_fold = refl

abbrev open_at : List (List ℕ) → List Mark → State
open_at now marks = Open (record { base = []; now = now; marks = marks; aborted = false })

abbrev mark_1 : Mark
mark_1 = record { number = 1; writes = codes "INSERT a" ∷ [] }

abbrev a_alone : List (List ℕ)
a_alone = codes "INSERT a" ∷ []

abbrev a_and_b : List (List ℕ)
a_and_b = codes "INSERT a" ∷ codes "INSERT b" ∷ []

-- nothing is heard beside a text
abbrev none_beside : Beside
none_beside = record { columns = 0; affected = 0; rows = [] }

nested_follows : IsHistory Sqlite nested no_depth
unfolding class is_begin is_built is_write same_text begins number_behind digits
nested_follows = record {
  state = Idle a_alone;
  follows = (
    tt,
    (
      open_at [] [],
      (refl, refl, (_, refl, (none_beside, (refl, refl)))),
      (
        λ d s. (refl, λ h. refl),
        (
          open_at a_alone [],
          (refl, refl, (_, refl, (none_beside, (refl, refl)))),
          (
            tt,
            (
              open_at a_alone (mark_1 ∷ []),
              (refl, refl, (_, refl, (none_beside, (refl, refl)))),
              (
                λ d s. (refl, λ h. refl),
                (
                  open_at a_and_b (mark_1 ∷ []),
                  (refl, refl, (_, refl, (none_beside, (refl, refl)))),
                  (
                    tt,
                    (
                      open_at a_alone (mark_1 ∷ []),
                      (refl, refl, (_, refl, (none_beside, (refl, refl)))),
                      (
                        tt,
                        (
                          Idle a_alone,
                          (refl, refl, (_, refl, (none_beside, (refl, refl)))),
                          (refl, refl),
                        ),
                      ),
                    ),
                  ),
                ),
              ),
            ),
          ),
        ),
      ),
    ),
  );
}

not_live : false ≡ true → ⊥
not_live e = cc

nested_meets : FoldPremises Sqlite nested
unfolding class is_begin is_built is_write same_text begins number_behind digits
nested_meets = record {
  none_refused = refl;
  none_in_idle = (lawful_meets Sqlite (Idle []) (Idle a_alone) (step_items nested) refl).0 refl;
  live = (tt, (tt, (tt, (tt, (tt, (not_live, tt))))));
}

-- busy, and the transaction stays
abbrev busy : Answer
busy = Refused (record { code = pos 5; kind = Unknown }) Stays

abbrev error : Error
error = DatabaseError Unknown (pos 5)

-- begin, then a commit that is refused, as is the rollback after it
abbrev broken : List Step
broken =
    step_of Begin (codes "BEGIN") Accepted (done (Ok tt) (at 1))
    ∷ record { operation = Commit; items = item (codes "COMMIT") busy ∷ item (codes "ROLLBACK") busy ∷ []; answer = done (Err (RollbackErrorOnCommit (flat error) (flat error))) InError }
    ∷ []

broken_follows : IsHistory Sqlite broken InError
unfolding class is_begin is_built is_write same_text begins number_behind digits
broken_follows = record {
  state = open_at [] [];
  follows = (tt, (open_at [] [], (refl, refl, (_, refl, (none_beside, (refl, refl)))), (tt, (open_at [] [], (refl, refl, (_, refl, (none_beside, (refl, refl, (_, refl, (none_beside, (refl, refl))))))), (refl, refl)))));
}
