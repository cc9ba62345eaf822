-- Chains in one list of links, as members come and leave.
use Rattle.std.proofs.Common.{◌≡◌, ◌≢◌, ◌<◌, ◌⊎◌, inl, inr, ℕ, ◌+◌, List, refl, sym, ◌∙◌, ap, subst, arith, length}
use Rattle.io_manager.proofs.Common.{slice_index, slice_set, cases_eq, get_or-set_same, get_or-set_other, length-set, Chains, IsJoint, IsChain, chain_end, AreEnds, AreLinked, CanLeave, CanJoin, PutsLast, TakesOut}
use Rattle.io_manager.proofs.Chaining.{joint_next, IsChain-still, IsChain-longer, IsChain-shorter}

-- THE JOINTS

module _ (Member : ℕ → ℕ → ℕ → Type 0) (chains : Chains) (l : AreLinked Member chains) where
  pub end_joint : (chain : ℕ) → IsJoint (Member chain) (chain_end chain) (chain_end chain) 0
  end_joint chain = inl (refl, refl)

  pub joint_in_range : (chain joint low : ℕ) → chain < 64 → IsJoint (Member chain) (chain_end chain) joint low → joint < 128
  joint_in_range chain joint low small (inl e) = let at : joint ≡ 64 + chain = e.0 in omega (arith, at, small)
  joint_in_range chain joint low small (inr m) = let h : joint < 64 = l.slots chain joint m.0 m.1 in omega (arith, h)

  -- two chains have no joint in common
  pub apart_joints : (chain other joint low joint' low' : ℕ) → chain ≢ other → IsJoint (Member chain) (chain_end chain) joint low → IsJoint (Member other) (chain_end other) joint' low' → joint ≢ joint'
  apart_joints chain other joint low joint' low' apart (inl e) (inl f) same = apart (let a : joint ≡ 64 + chain = e.0 in let b : joint' ≡ 64 + other = f.0 in omega (arith, a, b, same))
  apart_joints chain other joint low joint' low' apart (inl e) (inr m) same = let a : joint ≡ 64 + chain = e.0 in let b : joint' < 64 = l.slots other joint' m.0 m.1 in omega (arith, a, b, same)
  apart_joints chain other joint low joint' low' apart (inr m) (inl f) same = let a : joint < 64 = l.slots chain joint m.0 m.1 in let b : joint' ≡ 64 + other = f.0 in omega (arith, a, b, same)
  apart_joints chain other joint low joint' low' apart (inr m) (inr n) same = apart (l.one_chain chain other joint m.0 n.0 m.1 (subst (λ j. Member other j n.0) (sym same) n.1))

  pub can_leave : (chain slot number : ℕ) → chain < 64 → Member chain slot number → CanLeave chains slot
  can_leave chain slot number small there =
      let own : IsJoint (Member chain) (chain_end chain) slot (number + 1) = inr (number, there, refl) in
      let behind : (from : ℕ) × IsJoint (Member chain) (chain_end chain) (slice_index chains.after slot) from = joint_next _ _ _ _ ((l.chained chain small).next slot (number + 1) own) in
      let f : ((lower : ℕ) × IsJoint (Member chain) (chain_end chain) (slice_index chains.before slot) lower) × _ = (l.chained chain small).forth slot (number + 1) own in
      record {
        in_range = l.slots chain slot number there;
        after = joint_in_range chain (slice_index chains.after slot) behind.0 small behind.1;
        before = joint_in_range chain (slice_index chains.before slot) f.0.0 small f.0.1;
      }

  pub can_join : (chain slot : ℕ) → chain < 64 → slot < 64 → CanJoin chains chain slot
  can_join chain slot small low =
      let f : ((lower : ℕ) × IsJoint (Member chain) (chain_end chain) (slice_index chains.before (chain_end chain)) lower) × _ = (l.chained chain small).forth (chain_end chain) 0 (end_joint chain) in
      record { chain_in_range = small; in_range = low; last = joint_in_range chain (slice_index chains.before (chain_end chain)) f.0.0 small f.0.1 }

-- THE LINKS AFTER A CHANGE

pub set_same : (xs : List ℕ) (i j v : ℕ) → j ≡ i → i < length xs → slice_index (slice_set xs i v) j ≡ v
set_same xs i j v same low = ap (slice_index (slice_set xs i v)) same ∙ get_or-set_same xs i v 0 low

pub set_other : (xs : List ℕ) (i j v : ℕ) → j ≢ i → slice_index (slice_set xs i v) j ≡ slice_index xs j
set_other xs i j v apart = get_or-set_other xs i j v 0 apart

-- THE SAME MEMBERS

pub AreLinked-still : (Old New : ℕ → ℕ → ℕ → Type 0) (chains : Chains) → AreLinked Old chains → ((chain slot number : ℕ) → New chain slot number → Old chain slot number)
    → ((chain slot number : ℕ) → Old chain slot number → New chain slot number) → AreLinked New chains
AreLinked-still Old New chains l was still = record {
  joints = l.joints;
  slots = λ chain slot number m. l.slots chain slot number (was chain slot number m);
  one_chain = λ chain other slot number more m n. l.one_chain chain other slot number more (was chain slot number m) (was other slot more n);
  chained = λ chain small.
      IsChain-still (Old chain) (New chain) (chain_end chain) (slice_index chains.after) (slice_index chains.before) (slice_index chains.after) (slice_index chains.before) (l.chained chain small)
      (was chain) (still chain) (λ joint low j. refl) (λ joint low j. refl);
}

-- ONE LEAVES

module _ (Old New : ℕ → ℕ → ℕ → Type 0) (chains chains' : Chains) (l : AreLinked Old chains) (own slot number : ℕ) (small : own < 64) (there : Old own slot number)
    (was : (chain other more : ℕ) → New chain other more → Old chain other more × (other ≢ slot)) (still : (chain other more : ℕ) → Old chain other more → other ≢ slot → New chain other more)
    (one_slot : (other more : ℕ) → Old own other more → more ≡ number → other ≡ slot) (one_number : (more : ℕ) → Old own slot more → more ≡ number) (out : TakesOut chains slot chains') where
  leaves : CanLeave chains slot
  leaves = can_leave Old chains l own slot number small there

  itself : IsJoint (Old own) (chain_end own) slot (number + 1)
  itself = inr (number, there, refl)

  left_after : slice_index chains'.after (slice_index chains.before slot) ≡ slice_index chains.after slot
  left_after = ap (λ (xs : List ℕ). slice_index xs (slice_index chains.before slot)) out.after ∙ set_same chains.after _ _ _ refl (let h : slice_index chains.before slot < 128 = leaves.before in let e : length chains.after ≡ 128 = l.joints.0 in omega (arith, h, e))

  others_after : (joint : ℕ) → joint ≢ slice_index chains.before slot → slice_index chains'.after joint ≡ slice_index chains.after joint
  others_after joint apart = ap (λ (xs : List ℕ). slice_index xs joint) out.after ∙ set_other chains.after _ joint _ apart

  left_before : slice_index chains'.before (slice_index chains.after slot) ≡ slice_index chains.before slot
  left_before = ap (λ (xs : List ℕ). slice_index xs (slice_index chains.after slot)) out.before ∙ set_same chains.before _ _ _ refl (let h : slice_index chains.after slot < 128 = leaves.after in let e : length chains.before ≡ 128 = l.joints.1 in omega (arith, h, e))

  others_before : (joint : ℕ) → joint ≢ slice_index chains.after slot → slice_index chains'.before joint ≡ slice_index chains.before joint
  others_before joint apart = ap (λ (xs : List ℕ). slice_index xs joint) out.before ∙ set_other chains.before _ joint _ apart

  own_chain : IsChain (New own) (chain_end own) (slice_index chains'.after) (slice_index chains'.before)
  own_chain =
      IsChain-shorter (Old own) (New own) (chain_end own) (slice_index chains.after) (slice_index chains.before) (slice_index chains'.after) (slice_index chains'.before) (l.chained own small) slot number
      there (was own) (still own) one_slot one_number (λ same. let h : slot < 64 = leaves.in_range in omega (arith, h, same)) left_after others_after left_before others_before

  next_joint : (from : ℕ) × IsJoint (Old own) (chain_end own) (slice_index chains.after slot) from
  next_joint = joint_next _ _ _ _ ((l.chained own small).next slot (number + 1) itself)

  last_joint : (lower : ℕ) × IsJoint (Old own) (chain_end own) (slice_index chains.before slot) lower
  last_joint = ((l.chained own small).forth slot (number + 1) itself).0

  other_chain : (chain : ℕ) → chain < 64 → chain ≢ own → IsChain (New chain) (chain_end chain) (slice_index chains'.after) (slice_index chains'.before)
  other_chain chain low apart =
      IsChain-still (Old chain) (New chain) (chain_end chain) (slice_index chains.after) (slice_index chains.before) (slice_index chains'.after) (slice_index chains'.before) (l.chained chain low)
      (λ other more m. (was chain other more m).0)
      (λ other more m. still chain other more m (λ same. apart (l.one_chain chain own slot more number (subst (λ s. Old chain s more) same m) there)))
      (λ joint from j. others_after joint (apart_joints Old chains l chain own joint from (slice_index chains.before slot) last_joint.0 apart j last_joint.1))
      (λ joint from j. others_before joint (apart_joints Old chains l chain own joint from (slice_index chains.after slot) next_joint.0 apart j next_joint.1))

  pub AreLinked-less : AreLinked New chains'
  AreLinked-less = record {
    joints = (
      ap (λ (xs : List ℕ). length xs) out.after ∙ length-set chains.after _ _ ∙ l.joints.0,
      ap (λ (xs : List ℕ). length xs) out.before ∙ length-set chains.before _ _ ∙ l.joints.1,
    );
    slots = λ chain other more m. l.slots chain other more (was chain other more m).0;
    one_chain = λ chain chain' other more more' m n. l.one_chain chain chain' other more more' (was chain other more m).0 (was chain' other more' n).0;
    chained = λ chain low. elim (cases_eq chain own) [
      | inl same ↦ subst (λ c. IsChain (New c) (chain_end c) (slice_index chains'.after) (slice_index chains'.before)) (sym same) own_chain
      | inr apart ↦ other_chain chain low apart
    ];
  }

-- ONE COMES TO THE END OF ITS CHAIN

module _ (Old New : ℕ → ℕ → ℕ → Type 0) (chains chains' : Chains) (l : AreLinked Old chains) (own slot number : ℕ) (small : own < 64) (low : slot < 64)
    (was_or_new : (chain other more : ℕ) → New chain other more → ((other ≡ slot) × (more ≡ number) × (chain ≡ own)) ⊎ Old chain other more) (there : New own slot number)
    (still : (chain other more : ℕ) → Old chain other more → New chain other more) (highest : (other more : ℕ) → Old own other more → more < number)
    (elsewhere : (chain other more : ℕ) → Old chain other more → other ≢ slot) (puts : PutsLast chains own slot chains') where
  abbrev last : ℕ
  last = slice_index chains.before (chain_end own)

  last_in : (lower : ℕ) × IsJoint (Old own) (chain_end own) last lower
  last_in = ((l.chained own small).forth (chain_end own) 0 (inl (refl, refl))).0

  last_small : last < 128
  last_small = joint_in_range Old chains l own last last_in.0 small last_in.1

  joint_not_new : (chain joint from : ℕ) → IsJoint (Old chain) (chain_end chain) joint from → joint ≢ slot
  joint_not_new chain joint from (inl e) same = let a : joint ≡ 64 + chain = e.0 in omega (arith, a, same, low)
  joint_not_new chain joint from (inr m) same = elsewhere chain joint m.0 m.1 same

  after_length : length (slice_set chains.after last slot) ≡ 128
  after_length = length-set chains.after _ _ ∙ l.joints.0

  before_length : length (slice_set chains.before slot last) ≡ 128
  before_length = length-set chains.before _ _ ∙ l.joints.1

  slot_after : slice_index chains'.after slot ≡ chain_end own
  slot_after = ap (λ (xs : List ℕ). slice_index xs slot) puts.after ∙ set_same (slice_set chains.after last slot) _ _ _ refl (let e : length (slice_set chains.after last slot) ≡ 128 = after_length in omega (arith, e, low))

  last_after : slice_index chains'.after last ≡ slot
  last_after =
      ap (λ (xs : List ℕ). slice_index xs last) puts.after ∙ set_other (slice_set chains.after last slot) slot last _ (joint_not_new own last last_in.0 last_in.1)
      ∙ set_same chains.after last last slot refl (let e : length chains.after ≡ 128 = l.joints.0 in let h : last < 128 = last_small in omega (arith, e, h))

  others_after_it : (joint : ℕ) → joint ≢ last → joint ≢ slot → slice_index chains'.after joint ≡ slice_index chains.after joint
  others_after_it joint apart other = ap (λ (xs : List ℕ). slice_index xs joint) puts.after ∙ set_other (slice_set chains.after last slot) slot joint _ other ∙ set_other chains.after last joint slot apart

  end_small : chain_end own < 128
  end_small = omega (arith, small)

  no_end : slot ≢ chain_end own
  no_end same = omega (arith, same, low)

  end_before : slice_index chains'.before (chain_end own) ≡ slot
  end_before = ap (λ (xs : List ℕ). slice_index xs (chain_end own)) puts.before ∙ set_same (slice_set chains.before slot last) _ _ _ refl (let e : length (slice_set chains.before slot last) ≡ 128 = before_length in let h : chain_end own < 128 = end_small in omega (arith, e, h))

  slot_before : slice_index chains'.before slot ≡ last
  slot_before =
      ap (λ (xs : List ℕ). slice_index xs slot) puts.before ∙ set_other (slice_set chains.before slot last) (chain_end own) slot slot no_end
      ∙ set_same chains.before slot slot last refl (let e : length chains.before ≡ 128 = l.joints.1 in omega (arith, e, low))

  others_before_it : (joint : ℕ) → joint ≢ slot → joint ≢ chain_end own → slice_index chains'.before joint ≡ slice_index chains.before joint
  others_before_it joint other apart = ap (λ (xs : List ℕ). slice_index xs joint) puts.before ∙ set_other (slice_set chains.before slot last) (chain_end own) joint slot apart ∙ set_other chains.before slot joint last other

  longer : IsChain (New own) (chain_end own) (slice_index chains'.after) (slice_index chains'.before)
  longer =
      IsChain-longer (Old own) (New own) (chain_end own) (slice_index chains.after) (slice_index chains.before) (slice_index chains'.after) (slice_index chains'.before) (l.chained own small) slot number
      (λ other more m. elim (was_or_new own other more m) [ inl one ↦ inl (one.0, one.1) | inr before ↦ inr before ]) there (still own)
      highest (elsewhere own) (λ other more m same. let h : other < 64 = l.slots own other more m in omega (arith, h, same)) no_end
      last_after slot_after others_after_it slot_before end_before others_before_it

  other_still : (chain : ℕ) → chain < 64 → chain ≢ own → IsChain (New chain) (chain_end chain) (slice_index chains'.after) (slice_index chains'.before)
  other_still chain small' apart =
      IsChain-still (Old chain) (New chain) (chain_end chain) (slice_index chains.after) (slice_index chains.before) (slice_index chains'.after) (slice_index chains'.before) (l.chained chain small')
      (λ other more m. elim (was_or_new chain other more m) [ inl one ↦ absurd (apart one.2) | inr before ↦ before ]) (still chain)
      (λ joint from j. others_after_it joint (apart_joints Old chains l chain own joint from last last_in.0 apart j last_in.1) (joint_not_new chain joint from j))
      (λ joint from j. others_before_it joint (joint_not_new chain joint from j) (apart_joints Old chains l chain own joint from (chain_end own) 0 apart j (inl (refl, refl))))

  in_one : (chain chain' other more more' : ℕ) → ((other ≡ slot) × (more ≡ number) × (chain ≡ own)) ⊎ Old chain other more → ((other ≡ slot) × (more' ≡ number) × (chain' ≡ own)) ⊎ Old chain' other more' → chain ≡ chain'
  in_one chain chain' other more more' (inl a) (inl b) = a.2 ∙ sym b.2
  in_one chain chain' other more more' (inl a) (inr n) = absurd (elsewhere chain' other more' n a.0)
  in_one chain chain' other more more' (inr m) (inl b) = absurd (elsewhere chain other more m b.0)
  in_one chain chain' other more more' (inr m) (inr n) = l.one_chain chain chain' other more more' m n

  pub AreLinked-more : AreLinked New chains'
  AreLinked-more = record {
    joints = (
      ap (λ (xs : List ℕ). length xs) puts.after ∙ length-set (slice_set chains.after last slot) _ _ ∙ after_length,
      ap (λ (xs : List ℕ). length xs) puts.before ∙ length-set (slice_set chains.before slot last) _ _ ∙ before_length,
    );
    slots = λ chain other more m. elim (was_or_new chain other more m) [ inl one ↦ (let at : other ≡ slot = one.0 in omega (arith, at, low)) | inr before ↦ l.slots chain other more before ];
    one_chain = λ chain chain' other more more' m n. in_one chain chain' other more more' (was_or_new chain other more m) (was_or_new chain' other more' n);
    chained = λ chain small'. elim (cases_eq chain own) [
      | inl same ↦ subst (λ c. IsChain (New c) (chain_end c) (slice_index chains'.after) (slice_index chains'.before)) (sym same) longer
      | inr apart ↦ other_still chain small' apart
    ];
  }

-- NO MEMBERS

pub AreLinked-empty : (Member : ℕ → ℕ → ℕ → Type 0) (chains : Chains) → ((chain slot number : ℕ) → Member chain slot number → ⊥) → AreEnds chains → AreLinked Member chains
AreLinked-empty Member chains none ends = record {
  joints = ends.joints;
  slots = λ chain slot number m. absurd (none chain slot number m);
  one_chain = λ chain other slot number more m n. absurd (none chain slot number m);
  chained = λ chain low.
      let end_at : chain_end chain < 128 = omega (arith, low) in
      let ended : (joint from : ℕ) → IsJoint (Member chain) (chain_end chain) joint from → (joint ≡ chain_end chain) × (from ≡ 0) = only_end chain in
      record {
        next = λ joint from j. inl (ap (slice_index chains.after) (ended joint from j).0 ∙ ends.after (chain_end chain) end_at, λ other more m. absurd (none chain other more m));
        back = λ joint from j.
            ap (λ x. slice_index chains.before (slice_index chains.after x)) (ended joint from j).0 ∙ ap (slice_index chains.before) (ends.after (chain_end chain) end_at) ∙ ends.before (chain_end chain) end_at ∙ sym (ended joint from j).0;
        forth = λ joint from j. (
          (0, inl (ap (slice_index chains.before) (ended joint from j).0 ∙ ends.before (chain_end chain) end_at, refl)),
          ap (λ x. slice_index chains.after (slice_index chains.before x)) (ended joint from j).0 ∙ ap (slice_index chains.after) (ends.before (chain_end chain) end_at) ∙ ends.after (chain_end chain) end_at ∙ sym (ended joint from j).0,
        );
      };
}
  where
    only_end : (chain joint from : ℕ) → IsJoint (Member chain) (chain_end chain) joint from → (joint ≡ chain_end chain) × (from ≡ 0)
    only_end chain joint from (inl e) = e
    only_end chain joint from (inr m) = absurd (none chain joint m.0 m.1)
