-- The claim is not empty: every list of calls has a chain, from every host that satisfies the facts, so from the one that the code makes. And every
-- call of such a chain meets its function's premise.
use Rattle.numbers.proofs.Basics.{ℕ, ◌≤◌, ◌≡◌, refl, ap, sym, ◌∙◌, subst, Bool, true, false, true≢false, Option, none}
use Rattle.numbers.proofs.Basics.{some, List, [], ◌∷◌, ◌++◌, map, length, drop, replicate, leb}
use lib.ListN.{length-replicate}
use lib.ListN.{take as first}
use Rattle.rules.specs.State.{Limits, State, Pending, record_bytes, queued, paper_limits, fresh, with_pending}
use Rattle.rules.specs.Outcome.{Outcome, refuse_with, accept, reset_with, tell_with, tell, result, Seen, answering}
use Rattle.rules.specs.Machine.{Ask, set_attr, get_attr, guest_take, write_list, play_list, Call, outcome, step, answer_of}
use Rattle.rules.specs.{MoveList.list_requests, MoveList.total, Take.Handed, Take.handed, Take.hands_out, Take.takes, Invariant.Sound}
use Rattle.rules.proofs.{Checks.passes, Checks.fails, Reachable.kept_step, Reachable.fresh-sound, Shapes.Sets, Shapes.Gets, Shapes.shaped, Outcomes.Known, Outcomes.Plays, Outcomes.known-outcome}
use Rattle.answers.specs.{declared.Answer.Answer, Answers.answered, Answers.saw}
use Rattle.adapters.specs.{declared.Device.Device, declared.Place.Place, Values.unused, Values.place_of, Values.device_of}
use Rattle.store.specs.Memory.{pending_of}
use Rattle.store.specs.declared.Controller.{Controller}
use Rattle.calls.specs.Limits.{limits_of}
use Rattle.calls.proofs.Limits.{limits-sized, limits-made, limits-kept}
use Rattle.flic.specs.{Surface.state_of, Surface.Valid, Surface.Steps, Surface.Requested, Surface.Taken, Claim.Fresh, Claim.machine, Claim.Moved}
use Rattle.flic.specs.Chain.{Host, Lends, its_own, another, asked, Leaves, Ran, end, asks, take, LentPremise, Premises}
use Rattle.flic.proofs.{Promises.by_length, Promises.Tabled, Promises.refused-table, Follows.host_state, Follows.Good, Follows.own-length, Follows.tabled, Follows.requested, Follows.taken, Claim.fresh-good, Claim.ran-good, Claim.good₁, Claim.good-second, Represent.keep, Represent.Represents, Represent.represent}

-- ---- every contract has an answer
module _ (c : Controller) (d : Device) (t : List Place) where
  abbrev L : Limits
  L = limits_of c

  abbrev s : State
  s = state_of c d t

  -- What a call that is lent a table can come to: its contract has this answer.
  pub record AnswerTo (ask : Ask) (b : List ℕ) : Type 0 where
    pub c' : Controller
    pub d' : Device
    pub t' : List Place
    pub r : Answer
    pub b' : List ℕ
    pub leaves : Leaves ask c c' d d' t t' b b'
    pub said : Requested ask c c' d d' t t' b (saw r b')

  all_left : (ask : Ask) → Tabled ask → (b : List ℕ) → Leaves ask c c d d t t b b
  all_left (set_attr group attr) k b = refl
  all_left (get_attr group attr) k b = (refl, refl, refl)
  all_left (guest_take subclasses external mcheck) k b = k
  all_left write_list k b = (refl, refl, refl)
  all_left play_list k b = refl

  module _ (v : length t ≡ L.places → Valid c d t) (b : List ℕ) where
    -- an answer that leaves the host as it was
    leaves_all : (ask : Ask) (r : Answer) (b' : List ℕ) → Leaves ask c c d d t t b b' → Steps ask c c d d t t b (saw r b') → ((code count : ℕ) → outcome L s ask (length t) b ≡ refuse_with code count → b' ≡ b) → AnswerTo ask b
    leaves_all ask r b' l e kept =
        record { c' = c; d' = d; t' = t; r = r; b' = b'; leaves = l; said = record { steps = e; kept = λ code count o. (refl, refl, refl, kept code count o); valid = v; limits = refl } }

    -- a refused call: everything stays
    stays : (ask : Ask) → Tabled ask → (code count : ℕ) → outcome L s ask (length t) b ≡ refuse_with code count → AnswerTo ask b
    unfolding step result
    stays ask k code count e = leaves_all ask (answered code count) b (all_left ask k b) (ap (answer_of L s b) e) (λ _ _ _. refl)

    -- a call that leaves the state, and writes: a get, the writing of a list
    reads : (ask : Ask) → Tabled ask → (Plays ask → ⊥) → ((b' : List ℕ) → Leaves ask c c d d t t b b') → (o : Outcome State)
        → outcome L s ask (length t) b ≡ o → Gets s o → Known s.ais (Plays ask) o → AnswerTo ask b
    unfolding step result
    reads ask k other left (refuse_with code count) e g w = stays ask k code count e
    reads ask k other left (accept count next written) e g w =
        leaves_all ask (answered 0 count) (written ++ drop (length written) b) (left _) (ap (answer_of L s b) e ∙ (λ i. tell 0 count (g.0 i) (written ++ drop (length written) b)))
        (λ code n o. absurd (true≢false (let z : true ≡ false = cc in z)))
    reads ask k other left (reset_with code place further) e g w = absurd (other w.0)

    -- a call that changes the state, and writes nothing: a set, the playing of a list. The next state is that of a host.
    becomes : (ask : Ask) → ((c' : Controller) (d' : Device) (t' : List Place) → Leaves ask c c' d d' t t' b b) → (r : Answer) (next : State)
        → Sound L next → step L s (asked ask b (length t)) ≡ answering (saw r b) next → ((code count : ℕ) → outcome L s ask (length t) b ≡ refuse_with code count → ⊥) → AnswerTo ask b
    becomes ask left r next h e not-refused =
        let k = represent c next h in
        record {
          c' = k.host.ctl;
          d' = k.host.dev;
          t' = k.host.tab;
          r = r;
          b' = b;
          leaves = left k.host.ctl k.host.dev k.host.tab;
          said = record { steps = e ∙ ap (answering (saw r b)) (sym k.state); kept = λ code count o. absurd (not-refused code count o); valid = λ n. k.good; limits = k.limits };
        }

    changes : (ask : Ask) → Tabled ask → ((c' : Controller) (d' : Device) (t' : List Place) → Leaves ask c c' d d' t t' b b) → length t ≡ L.places
        → (o : Outcome State) → outcome L s ask (length t) b ≡ o → Sets o → Known s.ais (Plays ask) o → AnswerTo ask b
    unfolding step result
    changes ask k left n (refuse_with code count) e g w = stays ask k code count e
    changes ask k left n (accept count next written) e g w =
        becomes ask left (answered 0 count) next
        (subst (Sound L) (ap (λ (o : Outcome State). (answer_of L s b o).next) e) (kept_step L s (v n).sound (asked ask b (length t))).sound)
        (ap (answer_of L s b) e ∙ ap (λ (l : List ℕ). tell 0 count next (l ++ drop (length l) b)) g.1)
        (λ code n o. true≢false (let z : true ≡ false = cc in z))
    changes ask k left n (reset_with code place further) e g w =
        becomes ask left (answered code place) (fresh L s.ais) (fresh-sound L s.ais)
        (ap (answer_of L s b) e ∙ ap (λ (m : ℕ). tell_with code place m (fresh L s.ais) b) w.2)
        (λ code n o. true≢false (let z : true ≡ false = cc in z))

    pub answer-to : (ask : Ask) → Tabled ask → AnswerTo ask b
    answer-to (set_attr group attr) k =
        by_length L (length t)
        (λ n. changes (set_attr group attr) k (λ _ _ _. refl) n _ refl (shaped L s (set_attr group attr) (length t) b) (known-outcome L s (set_attr group attr) (length t) b))
        (λ w. stays (set_attr group attr) k 14 0 (refused-table L s (set_attr group attr) (length t) b k w))
    answer-to (get_attr group attr) k =
        reads (get_attr group attr) k (λ p. p) (λ _. (refl, refl, refl)) _ refl (shaped L s (get_attr group attr) (length t) b) (known-outcome L s (get_attr group attr) (length t) b)
    answer-to (guest_take subclasses external mcheck) k = absurd k
    answer-to write_list k = reads write_list k (λ p. p) (λ _. (refl, refl, refl)) _ refl (shaped L s write_list (length t) b) (known-outcome L s write_list (length t) b)
    answer-to play_list k =
        by_length L (length t)
        (λ n. changes play_list k (λ _ _ _. refl) n _ refl (shaped L s play_list (length t) b) (known-outcome L s play_list (length t) b))
        (λ w. stays play_list k 14 0 (refused-table L s play_list (length t) b k w))

-- ---- the take, which is lent no table
pub record TakeTo (c : Controller) (subclasses : ℕ) (external mcheck : Bool) (b : List ℕ) : Type 0 where
  pub c' : Controller
  pub r : Answer
  pub b' : List ℕ
  pub said : Taken subclasses external mcheck c c' b (saw r b')

pub take-to : (h : Host) → Good h → (subclasses : ℕ) (external mcheck : Bool) (b : List ℕ) → TakeTo h.ctl subclasses external mcheck b
unfolding step outcome takes hands_out result state_of
take-to h g subclasses external mcheck b = short (leb record_bytes (length b)) refl
  where
    ask : Ask
    ask = guest_take subclasses external mcheck

    p : Pending
    p = pending_of h.ctl.order h.ctl.counts h.ctl.slots h.ctl.singles

    -- nothing is taken
    untaken : (r : Answer) → ((d : Device) (t : List Place) → Steps ask h.ctl h.ctl d d t t b (saw r b)) → TakeTo h.ctl subclasses external mcheck b
    untaken r e = record { c' = h.ctl; r = r; b' = b; said = record { steps = e; kept = λ n. (refl, refl); ready = g.ready; limits = refl } }

    hands : (o : Option (Handed Pending)) → handed p subclasses external mcheck ≡ o → leb record_bytes (length b) ≡ true → TakeTo h.ctl subclasses external mcheck b
    hands none e f = untaken (answered 0 0) (λ d t. ap (answer_of (limits_of h.ctl) (state_of h.ctl d t) b) (passes _ _ _ f ∙ ap (hands_out (state_of h.ctl d t)) e))
    hands (some x) e f =
        let u = (kept_step (limits_of h.ctl) (host_state h) g.sound (asked ask b 0)).sound in
        let w : Sound (limits_of h.ctl) (with_pending x.left (host_state h)) = subst (Sound (limits_of h.ctl)) (ap (λ (o : Outcome State). (answer_of (limits_of h.ctl) (host_state h) b o).next) (passes _ _ _ f ∙ ap (hands_out (host_state h)) e)) u in
        let k = keep x.left w.pending (subst (λ (n : ℕ). queued x.left ≤ n) (limits-sized h.ctl).room w.within) h.ctl.ais in
        record {
          c' = k.ctl;
          r = answered 0 1;
          b' = x.given ++ drop (length x.given) b;
          said =
              record {
                steps = λ d t. ap (answer_of (limits_of h.ctl) (state_of h.ctl d t) b) (passes _ _ _ f ∙ ap (hands_out (state_of h.ctl d t)) e)
                    ∙ (λ i. tell 0 1 (record { ais = (sym k.same-ais) i; adapters = map place_of t; pending = (sym k.pending) i; device = device_of d }) (x.given ++ drop (length x.given) b));
                kept = λ n. absurd (n refl);
                ready = k.ready;
                limits = limits-kept h.ctl k.ctl;
              };
        }

    short : (t : Bool) → leb record_bytes (length b) ≡ t → TakeTo h.ctl subclasses external mcheck b
    short true f = hands (handed p subclasses external mcheck) refl f
    short false f = untaken (answered 14 0) (λ d t. ap (answer_of (limits_of h.ctl) (state_of h.ctl d t) b) (fails _ _ _ f))

-- ---- every list of calls
-- a table of n places to lend: the host's own where that is its length
record Table (h : Host) (n : ℕ) : Type 0 where
  lent : List Place
  places : length lent ≡ n
  valid : length lent ≡ (limits_of h.ctl).places → Valid h.ctl h.dev lent
  own : List Place → List Place
  lends : (left : List Place) → Lends (limits_of h.ctl) h.tab lent left (own left)

table : (h : Host) → Good h → (n : ℕ) → Table h n
table h g n =
    by_length (limits_of h.ctl) n
    (λ e. record { lent = h.tab; places = own-length h g ∙ sym e; valid = λ _. g; own = λ left. left; lends = λ left. its_own refl })
    (λ w. record {
      lent = replicate n unused;
      places = length-replicate n unused;
      valid = λ e. absurd (w (sym (length-replicate n unused) ∙ e));
      own = λ left. h.tab;
      lends = λ left. another (λ e. w (sym (length-replicate n unused) ∙ e));
    })

pub record Chain (h : Host) (cs : List Call) : Type 0 where
  pub seen : List Seen
  pub last : Host
  pub ran : Ran h cs seen last

-- one call more, that is lent a table
lent-more : (cs : List Call) → ((h : Host) → Good h → Chain h cs) → (h : Host) → Good h → (ask : Ask) → Tabled ask → (b : List ℕ) (n : ℕ) → Chain h (asked ask b n ∷ cs)
lent-more cs then h g ask lent b n =
    let x = table h g n in
    let y = answer-to h.ctl h.dev x.lent x.valid b ask lent in
    let f = requested h g ask lent b y.c' y.d' x.lent y.t' (saw y.r y.b') y.said (x.own y.t') (x.lends y.t') in
    let k = then _ f.good in
    subst (λ (i : ℕ). Chain h (asked ask b i ∷ cs)) x.places
    (record { seen = _; last = k.last; ran = asks ask b y.c' y.d' x.lent y.t' (x.own y.t') (saw y.r y.b') y.leaves (x.lends y.t') y.said k.ran })

one_more : (cs : List Call) → ((h : Host) → Good h → Chain h cs) → (h : Host) → Good h → (ask : Ask) (b : List ℕ) (n : ℕ) → Chain h (asked ask b n ∷ cs)
one_more cs then h g (set_attr group attr) b n = lent-more cs then h g (set_attr group attr) tt b n
one_more cs then h g (get_attr group attr) b n = lent-more cs then h g (get_attr group attr) tt b n
one_more cs then h g (guest_take subclasses external mcheck) b n =
    let y = take-to h g subclasses external mcheck b in
    let f = taken h g subclasses external mcheck b y.c' n (saw y.r y.b') y.said in
    let k = then _ f.good in
    record { seen = _; last = k.last; ran = take subclasses external mcheck b y.c' n (saw y.r y.b') y.said k.ran }
one_more cs then h g write_list b n = lent-more cs then h g write_list tt b n
one_more cs then h g play_list b n = lent-more cs then h g play_list tt b n

pub runs : (cs : List Call) (h : Host) → Good h → Chain h cs
runs [] h g = record { seen = []; last = h; ran = end }
runs (c ∷ cs) h g = one_more cs (runs cs) h g c.ask c.buffer c.table_length

-- ---- every call of a chain meets its function's premise
lent-premise : {h : Host} → Good h → {t t' u : List Place} → Lends (limits_of h.ctl) h.tab t t' u → LentPremise h t
lent-premise {h} g (its_own e) n = subst (λ (x : List Place). Valid h.ctl h.dev x) (sym e) g
lent-premise g (another w) n = absurd (w n)

pub premises : {h e : Host} {cs : List Call} {xs : List Seen} → Good h → (r : Ran h cs xs e) → Premises r
premises g end = tt
premises {h} g (asks ask b c' d' t t' u x k l f rest) = (lent-premise g l, premises (requested h g ask (tabled ask _ _ _ _ _ _ _ _ k) b c' d' t t' x f u l).good rest)
premises {h} g (take subclasses external mcheck b c' n x f rest) = (g.ready, premises (taken h g subclasses external mcheck b c' n x f).good rest)

-- ---- from the host that the code makes
-- making one has an answer, for each capability
pub record MadeTo (ais : Bool) : Type 0 where
  pub host : Host
  pub made : Fresh paper_limits ais host

pub make-to : (ais : Bool) → MadeTo ais
make-to ais = record {
  host = k.host;
  made = record {
    ctl = k.host.ctl;
    dev = k.host.dev;
    tab = k.host.tab;
    right = n;
    answer = answered 0 0;
    made = record { right = λ e. (refl, limits-made k.host.ctl, k.state, k.good); wrong = λ w. absurd (w n) };
  };
}
  where
    -- any controller has the limits of one that is made
    any : Controller
    any = record { slots = []; order = []; counts = []; singles = []; ais = ais }

    k : Represents any (fresh paper_limits ais)
    k = represent any (fresh paper_limits ais) (subst (λ (L : Limits). Sound L (fresh paper_limits ais)) (sym (limits-made any)) (fresh-sound paper_limits ais))

    n : length k.host.tab ≡ paper_limits.places
    n = own-length k.host k.good ∙ ap (λ (L : Limits). L.places) (limits-made k.host.ctl)

pub runs-fresh : {L : Limits} {ais : Bool} {f : Host} → Fresh L ais f → (cs : List Call) → Chain f cs
runs-fresh {f = f} h cs = runs cs f (fresh-good h)

pub premises-fresh : {L : Limits} {ais : Bool} {f e : Host} {cs : List Call} {xs : List Seen} → Fresh L ais f → (r : Ran f cs xs e) → Premises r
premises-fresh h r = premises (fresh-good h) r

-- a writing leaves its host as it was
same-host : {c c' : Controller} {d d' : Device} {t t' : List Place} {b : List ℕ} {x : Seen} → (c' ≡ c) × (d' ≡ d) × (t' ≡ t)
    → Requested write_list c c' d d' t t' b x → Requested write_list c c d d t t b x
same-host {c} {c'} {d} {d'} {t} {t'} {b} {x} k f = subst (λ (h : Host). Requested write_list c h.ctl d h.dev t h.tab b x) (λ i. record { ctl = k.0 i; dev = k.1 i; tab = k.2 i }) f

-- and a playing its list
left-list : {c c' : Controller} {d d' : Device} {t t' : List Place} {b b' : List ℕ} {r : Answer} → b' ≡ b
    → Requested play_list c c' d d' t t' b (saw r b') → Requested play_list c c' d d' t t' b (saw r b)
left-list {c} {c'} {d} {d'} {t} {t'} {b} {b'} {r} e f = subst (λ (l : List ℕ). Requested play_list c c' d d' t t' b (saw r l)) e f

-- for any two fresh hosts of the same limits and capability, any two lists of calls and any buffer that is long enough there is a move
pub moved : (L : Limits) (ais : Bool) (f₁ f₂ : Host) → Fresh L ais f₁ → Fresh L ais f₂ → (cs₁ cs₂ : List Call) (b : List ℕ) → total (list_requests (machine L ais cs₁)) ≤ length b → Moved
moved L ais f₁ f₂ h₁ h₂ cs₁ cs₂ b long =
    let x = runs-fresh h₁ cs₁ in
    let y = runs-fresh h₂ cs₂ in
    let g = ran-good h₁ x.ran in
    let k = ran-good h₂ y.ran in
    let w = answer-to x.last.ctl x.last.dev x.last.tab (λ _. g) b write_list tt in
    let p = answer-to y.last.ctl y.last.dev y.last.tab (λ _. k) (first w.r.count w.b') play_list tt in
    record {
      limits = L;
      ais = ais;
      start₁ = f₁;
      fresh₁ = h₁;
      calls₁ = cs₁;
      seen₁ = x.seen;
      first = x.last;
      ran₁ = x.ran;
      buffer = b;
      wrote = saw w.r w.b';
      writes = same-host w.leaves w.said;
      long = long;
      start₂ = f₂;
      fresh₂ = h₂;
      calls₂ = cs₂;
      seen₂ = y.seen;
      before = y.last;
      ran₂ = y.ran;
      second = record { ctl = p.c'; dev = p.d'; tab = p.t' };
      played = saw p.r (first w.r.count w.b');
      plays = left-list p.leaves p.said;
    }

-- and both of its calls meet their functions' premises
pub moved-premises : (m : Moved) → LentPremise m.first m.first.tab × LentPremise m.before m.before.tab
moved-premises m = (λ _. ran-good m.fresh₁ m.ran₁, λ _. ran-good m.fresh₂ m.ran₂)

-- ---- after the move
-- every further list of calls has a chain on both hosts, and every call of any such chain meets its function's premise
pub further : (m : Moved) (ds : List Call) → Chain m.first ds × Chain m.second ds
further m ds = (runs ds m.first (good₁ m), runs ds m.second (good-second m))

module _ (m : Moved) {e : Host} {ds : List Call} {xs : List Seen} where
  pub premises-first : (r : Ran m.first ds xs e) → Premises r
  premises-first r = premises (good₁ m) r

  pub premises-second : (r : Ran m.second ds xs e) → Premises r
  premises-second r = premises (good-second m) r
