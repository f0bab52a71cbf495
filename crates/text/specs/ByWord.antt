-- A law of every kind of node by its word, from what it says at each.
use Rattle.text.specs.declared.NodeKind.{NodeKind}
use Rattle.text.specs.declared.NodeKind.TheVariants as kind

pub record EachWord {ℓ} (P : NodeKind → Type ℓ) : Type ℓ where
  pub start : P kind.Start
  pub set : P kind.Set
  pub test : P kind.Test
  pub read : P kind.Read
  pub call : P kind.Call
  pub wait : P kind.Wait
  pub signal : P kind.Signal
  pub send : P kind.Send
  pub recv : P kind.Recv
  pub assert : P kind.Assert
  pub out : P kind.Out
  pub return : P kind.Return

pub by_word {ℓ} : {P : NodeKind → Type ℓ} → EachWord P → (k : NodeKind) → P k
by_word {P} h k = elim k as (λ j. P j) [
  | kind.Start ↦ h.start
  | kind.Set ↦ h.set
  | kind.Test ↦ h.test
  | kind.Read ↦ h.read
  | kind.Call ↦ h.call
  | kind.Wait ↦ h.wait
  | kind.Signal ↦ h.signal
  | kind.Send ↦ h.send
  | kind.Recv ↦ h.recv
  | kind.Assert ↦ h.assert
  | kind.Out ↦ h.out
  | kind.Return ↦ h.return
]
