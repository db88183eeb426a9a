-- A door that workers share, from one connection to the next.
use Rattle.std.proofs.Common.{◌≡◌, ℕ, ◌+◌, true, Option, Some, None, refl, sym, ap, subst, ◌∙◌, inl, inr, arith}
use Rattle.m2m_io.specs.Counts.{Rose}
use Rattle.m2m_io.specs.Told.{Tells, TellsStill}
use Rattle.workers.specs.declared.gate.Ending.{Ending}
use Rattle.workers.specs.declared.gate.Ending.TheVariants.{Over, Enough, Fault}
use Rattle.workers.specs.Gate.{DoorTold, AtMostAccepted, CountsDown, Guards, TakesConnections, ServesDoor, IsOneLess}

module _ {T : Type 0} where
  -- what is told after two calls
  pub tells-on : (f g : T → T) (a b c : Option T) → Tells f a b → Tells g b c → Tells (λ x. g (f x)) a c
  tells-on f g a b None p q = tt
  tells-on f g a None (Some z) p q = absurd q
  tells-on f g None (Some y) (Some z) p q = absurd p
  tells-on f g (Some x) (Some y) (Some z) p q = q ∙ ap g p

  -- functions that agree tell the same
  pub tells-as : (f g : T → T) (a b : Option T) → ((x : T) → f x ≡ g x) → Tells f a b → Tells g a b
  tells-as f g a None same p = tt
  tells-as f g None (Some y) same p = absurd p
  tells-as f g (Some x) (Some y) same p = p ∙ same x

  -- where nothing happens, what is told stays
  pub tells-same : (f : T → T) (a : Option T) → ((x : T) → f x ≡ x) → Tells f a a
  tells-same f None same = tt
  tells-same f (Some x) same = sym (same x)

counts-start : (accept : Option ℕ) → CountsDown accept 0 accept
counts-start None = tt
counts-start (Some most) = omega arith

within : (accept left : Option ℕ) (count : ℕ) → CountsDown accept count left → AtMostAccepted accept count
within None left count h = tt
within (Some most) None count h = absurd h
within (Some most) (Some n) count h = omega (arith, h)

-- nothing was taken yet
pub guards-start : (accept left : Option ℕ) (start now : DoorTold) → now ≡ start → left ≡ accept
    → Guards accept start now left None
guards-start accept left start now e l =
    subst (λ d. Guards accept start d left None) (sym e)
    (subst (λ k. Guards accept start start k None) (sym l) (record {
      takes = record {
        count = 0;
        few = within accept accept 0 (counts-start accept);
        given = tells-same (λ given. given + 0) start.given (λ x. let h : x + 0 ≡ x = omega arith in h);
        opened = tells-same (λ x. x) start.opened (λ x. refl);
        ends = (refl, tells-same (λ x. x) start.ended (λ x. refl));
      };
      counted = counts-start accept;
    }))

counts-more : (accept left less : Option ℕ) (count : ℕ) → IsOneLess left less → CountsDown accept count left
    → CountsDown accept (count + 1) less
counts-more None None None count l h = tt
counts-more None None (Some m) count l h = absurd l
counts-more None (Some n) less count l h = absurd h
counts-more (Some most) None less count l h = absurd h
counts-more (Some most) (Some n) None count l h = absurd l
counts-more (Some most) (Some n) (Some m) count l h = omega (arith, l, h)

-- one connection more
pub guards-more : (accept left less : Option ℕ) (start before now : DoorTold)
    → Guards accept start before left None → IsOneLess left less
    → Tells (λ given. given + 1) before.given now.given → TellsStill before.opened now.opened
    → TellsStill before.ended now.ended → now.faults ≡ before.faults
    → Guards accept start now less None
guards-more accept left less start before now g l given opened ended faults =
    let count = g.takes.count in
    let counted : CountsDown accept (count + 1) less = counts-more accept left less count l g.counted in record {
      takes = record {
        count = count + 1;
        few = within accept less (count + 1) counted;
        given = tells-as (λ x. x + count + 1) (λ x. x + (count + 1)) start.given now.given
            (λ x. let h : x + count + 1 ≡ x + (count + 1) = omega arith in h)
            (tells-on (λ x. x + count) (λ x. x + 1) start.given before.given now.given g.takes.given given);
        opened = tells-on (λ x. x) (λ x. x) start.opened before.opened now.opened g.takes.opened opened;
        ends = (
          faults ∙ g.takes.ends.0,
          tells-on (λ x. x) (λ x. x) start.ended before.ended now.ended g.takes.ends.1 ended,
        );
      };
      counted = counted;
    }

-- the door gave None
pub guards-over : (accept left : Option ℕ) (start before now : DoorTold)
    → Guards accept start before left None
    → TellsStill before.given now.given → TellsStill before.opened now.opened
    → Tells (λ _. true) before.ended now.ended → now.faults ≡ before.faults
    → Guards accept start now left (Some Over)
guards-over accept left start before now g given opened ended faults = record {
  takes = record {
    count = g.takes.count;
    few = g.takes.few;
    given = tells-on (λ x. x + g.takes.count) (λ x. x) start.given before.given now.given g.takes.given given;
    opened = tells-on (λ x. x) (λ x. x) start.opened before.opened now.opened g.takes.opened opened;
    ends = (
      faults ∙ g.takes.ends.0,
      tells-on (λ x. x) (λ _. true) start.ended before.ended now.ended g.takes.ends.1 ended,
    );
  };
  counted = g.counted;
}

-- the door failed
pub guards-fault : (accept left : Option ℕ) (start before now : DoorTold)
    → Guards accept start before left None
    → TellsStill before.given now.given → TellsStill before.opened now.opened
    → TellsStill before.ended now.ended → Rose before.faults now.faults
    → Guards accept start now left (Some Fault)
guards-fault accept left start before now g given opened ended rose = record {
  takes = record {
    count = g.takes.count;
    few = g.takes.few;
    given = tells-on (λ x. x + g.takes.count) (λ x. x) start.given before.given now.given g.takes.given given;
    opened = tells-on (λ x. x) (λ x. x) start.opened before.opened now.opened g.takes.opened opened;
    ends = (
      subst (λ k. Rose k now.faults) g.takes.ends.0 rose,
      tells-on (λ x. x) (λ x. x) start.ended before.ended now.ended g.takes.ends.1 ended,
    );
  };
  counted = g.counted;
}

all-taken : (accept : Option ℕ) (count : ℕ) → CountsDown accept count (Some 0) → accept ≡ Some count
all-taken None count h = absurd h
all-taken (Some most) count h = ap Some (let e : most ≡ count = omega (arith, h) in e)

-- none is left to accept
pub guards-enough : (accept left : Option ℕ) (start now : DoorTold)
    → Guards accept start now left None → left ≡ Some 0 → Guards accept start now left (Some Enough)
guards-enough accept left start now g none = record {
  takes = record {
    count = g.takes.count;
    few = g.takes.few;
    given = g.takes.given;
    opened = g.takes.opened;
    ends = (
      g.takes.ends.0,
      g.takes.ends.1,
      all-taken accept g.takes.count (subst (λ k. CountsDown accept g.takes.count k) none g.counted),
    );
  };
  counted = g.counted;
}

-- a door that ended so
pub takes_as : {accept : Option ℕ} {ending other : Option Ending} {start now : DoorTold}
    → TakesConnections accept ending start now → ending ≡ other → TakesConnections accept other start now
takes_as {accept} {ending} {other} {start} {now} t e = subst (λ k. TakesConnections accept k start now) e t

-- a door that gave None, or as many as were to be accepted, was served to its end
pub serves_over : {accept : Option ℕ} {ending : Option Ending} {start now : DoorTold}
    → TakesConnections accept ending start now → ending ≡ Some Over → ServesDoor accept start now
serves_over t e = inl (takes_as t e)

pub serves_enough : {accept : Option ℕ} {ending : Option Ending} {start now : DoorTold}
    → TakesConnections accept ending start now → ending ≡ Some Enough → ServesDoor accept start now
serves_enough t e = inr (takes_as t e)

-- how a door ends
pub ruleset served_cases = (serves_over, serves_enough, takes_as)
