mod DeclaredVariables
mod Ids
mod MadeVariables
mod Rounds
mod UniversalInputs
