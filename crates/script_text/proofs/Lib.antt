mod AllowedScripts
mod CommandLists
