-- Bytes more in a buffer leave those that stand there.
use Rattle.std.proofs.Common.{◌≡◌, ℕ, ◌+◌, ◌≤◌, true, List, ◌++◌, length, take, drop, ap, sym, subst, ◌∙◌, arith, length-drop, length-append}
use Rattle.std.proofs.lemmas.List.{take-append-le, drop-append-le}
use Rattle.std.proofs.Math.Seq.{take-length, take-add, take-append_seam, drop-append_seam}
use Rattle.std.specs.Str.{is_utf8, IsUtf8, IsCharBoundary}
use Rattle.std.proofs.lemmas.Str.{IsUtf8-from_is_utf8, IsUtf8-append, IsCharBoundary-from_take}
use Rattle.conn_server.specs.Spans.{bytes_at, IsSpan, IsTextSpan}
use Rattle.conn_server.specs.declared.spans.Span.{Span}

pub bytes_at-stays : (xs ys : List ℕ) (s : Span) → IsSpan xs s → bytes_at (xs ++ ys) s ≡ bytes_at xs s
bytes_at-stays xs ys s h =
    let start : s.start ≤ length xs = omega (arith, h) in
    let rest : s.len ≤ length (drop s.start xs) = omega (arith, h, length-drop s.start xs) in
    rw (drop-append-le s.start xs ys start) (take-append-le s.len (drop s.start xs) ys rest)

pub bytes_at-new : (xs ys : List ℕ) → bytes_at (xs ++ ys) (record { start = length xs; len = length ys }) ≡ ys
bytes_at-new xs ys = rw (drop-append_seam xs ys) (take-length ys)

pub IsSpan-stays : (xs ys : List ℕ) (s : Span) → IsSpan xs s → IsSpan (xs ++ ys) s
IsSpan-stays xs ys s h = omega (arith, h, length-append xs ys)

-- a text that is added to a text
pub IsTextSpan-new : (xs ys : List ℕ) → is_utf8 xs ≡ true → is_utf8 ys ≡ true → IsTextSpan (xs ++ ys) (record { start = length xs; len = length ys })
IsTextSpan-new xs ys front text = record {
  within = omega (arith, length-append xs ys);
  before = ap is_utf8 (take-append_seam xs ys) ∙ front;
  utf8 = ap is_utf8 (bytes_at-new xs ys) ∙ text;
}

pub IsTextSpan-stays : (xs ys : List ℕ) (s : Span) → IsTextSpan xs s → IsTextSpan (xs ++ ys) s
IsTextSpan-stays xs ys s h =
    let start : s.start ≤ length xs = omega (arith, h.within) in
    record {
      within = IsSpan-stays xs ys s h.within;
      before = ap is_utf8 (take-append-le s.start xs ys start) ∙ h.before;
      utf8 = ap is_utf8 (bytes_at-stays xs ys s h.within) ∙ h.utf8;
    }

-- a text may be cut where one in it starts and where it ends
pub cut_before : (bs : List ℕ) (s : Span) → IsUtf8 bs → IsTextSpan bs s → IsCharBoundary bs s.start
cut_before bs s text h = IsCharBoundary-from_take bs s.start text (omega (arith, h.within)) (IsUtf8-from_is_utf8 (take s.start bs) h.before)

pub cut_behind : (bs : List ℕ) (s : Span) → IsUtf8 bs → IsTextSpan bs s → IsCharBoundary bs (s.start + s.len)
cut_behind bs s text h =
    let both = IsUtf8-append (take s.start bs) (bytes_at bs s) (IsUtf8-from_is_utf8 (take s.start bs) h.before) (IsUtf8-from_is_utf8 (bytes_at bs s) h.utf8) in
    IsCharBoundary-from_take bs (s.start + s.len) text h.within (subst IsUtf8 (sym (take-add s.start s.len bs)) both)
