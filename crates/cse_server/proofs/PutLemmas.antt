-- What puts write, joined.
use Rattle.std.proofs.Common.{◌≡◌, ℕ, ◌+◌, List, [], ◌++◌, Option, Some, None, sym, subst, ◌∙◌, arith}
use Rattle.std.proofs.KnownBytes.{Appends-nil, Appends-trans}
use Rattle.cse_server.specs.Outside.{Puts, SinkTold}
use Rattle.m2m_io.specs.Told.{Tells}

-- ---- counts

Tells-zero : (x : Option ℕ) → Tells (λ puts. puts + 0) x x
Tells-zero None = tt
Tells-zero (Some n) = omega arith

Tells-add : (m n : ℕ) (x y z : Option ℕ) → Tells (λ puts. puts + m) x y → Tells (λ puts. puts + n) y z → Tells (λ puts. puts + (m + n)) x z
Tells-add m n x y None p q = tt
Tells-add m n x None (Some c) p q = absurd q
Tells-add m n None (Some b) (Some c) p q = absurd p
Tells-add m n (Some a) (Some b) (Some c) p q = omega (arith, p, q)

-- ---- whole texts

-- no put was made
pub puts_none : (told : SinkTold) → Puts [] 0 told told
puts_none told = record { written = Appends-nil told.written; puts = Tells-zero told.puts }

-- what was told is told still
pub puts_nothing : (old new : SinkTold) → new ≡ old → Puts [] 0 old new
puts_nothing old new same = subst (λ (told : SinkTold). Puts [] 0 old told) (sym same) (puts_none old)

pub Puts-append : (old mid new : SinkTold) (text more : List ℕ) (m n : ℕ) → Puts text m old mid → Puts more n mid new → Puts (text ++ more) (m + n) old new
Puts-append old mid new text more m n first then = record {
  written = Appends-trans old.written mid.written new.written text more first.written then.written;
  puts = Tells-add m n old.puts mid.puts new.puts first.puts then.puts;
}
