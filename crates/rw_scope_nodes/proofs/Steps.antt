-- What a step of the walk keeps: the nodes that were found, and behind them those that are left.
use Rattle.std.proofs.Common.{◌≡◌, ◌∙◌, refl, sym, ap, List, [], ◌∷◌, ◌++◌, append_assoc, append-nil, map, flat_map, suc, Result, Ok, Err, OnOk, ℕ, ◌+◌, ◌*◌, ◌≤◌, ◌<◌, length, arith, length-append}
use Rattle.rw_base.specs.declared.fail.OutOfMemory.{OutOfMemory}
use Rattle.rw_scope_rules.specs.Nodes.{Node as PlainNode}
use Rattle.rw_scope_nodes.specs.declared.node.Node.{Node}
use Rattle.rw_scope_nodes.specs.declared.task.Task.{Task}
use Rattle.rw_scope_nodes.specs.Plain.{plain_node, plain_nodes, task_nodes, left_nodes}

-- what follows where memory sufficed
pub on_ok : {R P Q : Type 0} (r : Result R OutOfMemory) → (P → Q) → OnOk r P → OnOk r Q
on_ok (Ok r) f p = f p
on_ok (Err e) f p = p

pub on_both : {R P Q S : Type 0} (r : Result R OutOfMemory) → (P → Q → S) → OnOk r P → OnOk r Q → OnOk r S
on_both (Ok r) f p q = f p q
on_both (Err e) f p q = p

module _ {A : Type 0} where
  -- a task that is put on the list is done next
  pub left_more : (tasks more : List (Task A)) (task : Task A) → more ≡ tasks ++ task ∷ [] → left_nodes more ≡ task_nodes task ++ left_nodes tasks
  left_more tasks more task e = ap left_nodes e ∙ at_end tasks
    where
      at_end : (ts : List (Task A)) → left_nodes (ts ++ task ∷ []) ≡ task_nodes task ++ left_nodes ts
      at_end [] = sym (append-nil (task_nodes task))
      at_end (t ∷ ts) = ap (λ ns. ns ++ task_nodes t) (at_end ts) ∙ append_assoc (task_nodes task) (left_nodes ts) (task_nodes t)

  -- three of them
  pub left_three : (tasks one two three : List (Task A)) (third second first : Task A) → one ≡ tasks ++ third ∷ [] → two ≡ one ++ second ∷ [] → three ≡ two ++ first ∷ []
      → left_nodes three ≡ (task_nodes first ++ (task_nodes second ++ task_nodes third)) ++ left_nodes tasks
  left_three tasks one two three third second first e f g =
      left_more two three first g
      ∙ ap (λ ns. task_nodes first ++ ns) (left_more one two second f ∙ ap (λ ns. task_nodes second ++ ns) (left_more tasks one third e) ∙ sym (append_assoc (task_nodes second) (task_nodes third) (left_nodes tasks)))
      ∙ sym (append_assoc (task_nodes first) (task_nodes second ++ task_nodes third) (left_nodes tasks))

  found_more : (found : List (Node A)) (node : Node A) → plain_nodes (found ++ node ∷ []) ≡ plain_nodes found ++ plain_node node ∷ []
  found_more [] node = refl
  found_more (n ∷ found) node = ap (λ ns. plain_node n ∷ ns) (found_more found node)

  -- a node is found, and what stands in it is left
  pub found_one : (found more : List (Node A)) (node : Node A) (all inner left now : List (PlainNode A)) → more ≡ found ++ node ∷ [] → all ≡ plain_node node ∷ inner → now ≡ inner ++ left
      → plain_nodes more ++ now ≡ plain_nodes found ++ (all ++ left)
  found_one found more node all inner left now e f g =
      ap (λ ns. plain_nodes ns ++ now) e ∙ ap (λ ns. ns ++ now) (found_more found node) ∙ append_assoc (plain_nodes found) (plain_node node ∷ []) now
      ∙ ap (λ ns. plain_nodes found ++ ns) (ap (λ ns. plain_node node ∷ ns) g ∙ sym (ap (λ ns. ns ++ left) f))

  -- the first of several trees was found, and the others are left
  pub several : {T U : Type 0} (nodes : U → List (PlainNode A)) (view : T → U) (trees rest : List T) (first : T) (found left now all : List (PlainNode A))
      → trees ≡ first ∷ rest → now ≡ flat_map nodes (map view rest) ++ left → all ≡ found ++ (nodes (view first) ++ now) → all ≡ found ++ (flat_map nodes (map view trees) ++ left)
  several nodes view trees rest first found left now all e f g =
      g ∙ ap (λ ns. found ++ ns) (ap (λ ns. nodes (view first) ++ ns) f ∙ sym (append_assoc (nodes (view first)) (flat_map nodes (map view rest)) left) ∙ ap (λ ts. flat_map nodes (map view ts) ++ left) (sym e))

  -- there is no tree
  pub nothing : {T U : Type 0} (nodes : U → List (PlainNode A)) (view : T → U) (trees : List T) (left : List (PlainNode A)) → length trees ≡ 0 → left ≡ flat_map nodes (map view trees) ++ left
  nothing nodes view [] left e = refl
  nothing nodes view (t ∷ ts) left e = absurd (let no : suc (length ts) ≡ 0 = e in omega arith)

  -- a step of the walk, for which a task was taken from the end of the list
  pub walked : (found now all : List (PlainNode A)) (left popped : List (Task A)) (task : Task A) → left ≡ popped ++ task ∷ [] → now ≡ found ++ (task_nodes task ++ left_nodes popped)
      → found ++ left_nodes left ≡ all → now ≡ all
  walked found now all left popped task e f g = f ∙ ap (λ ns. found ++ ns) (sym (left_more popped left task e)) ∙ g

  count : (found : List (Node A)) → length (plain_nodes found) ≡ length found
  count [] = refl
  count (n ∷ found) = ap (λ k. suc k) (count found)

  lengths : (found now : List (Node A)) (left after : List (PlainNode A)) → plain_nodes now ++ after ≡ plain_nodes found ++ left → length now + length after ≡ length found + length left
  lengths found now left after e =
      ap (λ k. k + length after) (sym (count now)) ∙ sym (length-append (plain_nodes now) after) ∙ ap length e ∙ length-append (plain_nodes found) left ∙ ap (λ k. k + length left) (count found)

  -- why the walk ends: a node is found and five tasks are put on the list at most, or a task is taken from it alone
  pub smaller : (found now : List (Node A)) (left popped after : List (Task A)) (task : Task A) (f n l p a : ℕ) → f ≡ length found → n ≡ length now → left ≡ popped ++ task ∷ []
      → plain_nodes now ++ left_nodes after ≡ plain_nodes found ++ (task_nodes task ++ left_nodes popped) → f ≤ n → a + 5 * f ≤ p + 5 * n → p + 1 ≡ l
      → 6 * length (left_nodes after) + a < 6 * length (left_nodes left) + l
  smaller found now left popped after task f n l p a is_f is_n e h grows costs one =
      let same = lengths found now (left_nodes left) (left_nodes after) (h ∙ ap (λ ns. plain_nodes found ++ ns) (sym (left_more popped left task e))) in
      omega (arith, same, is_f, is_n, grows, costs, one)
